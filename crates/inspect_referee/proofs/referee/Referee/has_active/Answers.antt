use Rattle.std.proofs.Common.{◌==◌, ◌&&◌, ◌∙◌, List, ap}
use Rattle.std.specs.List.{list_any}
use Rattle.scan_story.specs.Views.{is_active}
use Rattle.chunk_interest.specs.declared.need.Need.{Need}
use Rattle.inspect_referee.specs.Seen.{seen}
use Rattle.inspect_referee.proofs.Bounds.{any_mapped}
use Rattle.inspect_referee.proofs.referee.Referee.has_active.Goals as goal

pub returns : goal.returns
returns c =
    let h = seen c.args.self.now in
    let w = c.args.w in
    c.some_runs_on.ensures ∙ (ap (λ (ns : List Need). list_any (λ (n : Need). n.worker == w && is_active h n.query) ns) c.deref.ensures.value
    ∙ any_mapped (λ n. n.worker == w && is_active h n.query) c.args.self.now.terms.now.needs.items)
