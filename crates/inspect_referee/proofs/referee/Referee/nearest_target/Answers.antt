use Rattle.std.proofs.Common.{◌∙◌, ℕ, sym, ap, arith}
use Rattle.scan_story.specs.Counting.{has}
use Rattle.scan_story.specs.MayFollow.{is_target}
use Rattle.scan_story.specs.Policies.{dist_from}
use Rattle.chunk_interest.proofs.Kept.{target_inside}
use Rattle.inspect_referee.specs.Seen.{setting, seen}
use Rattle.inspect_referee.proofs.Nearing.{carried, same_start}
use Rattle.inspect_referee.proofs.referee.Referee.nearest_target.Goals as goal

pub returns : goal.returns
returns c =
    let r = c.args.self.now in
    let s = setting r in
    let h = seen r in
    let q = c.args.q in
    let is = c.targets.ensures s h c.requires.reading.stands in
    let inside = c.first_chunk.ensures.inside in
    carried (has c.targets.result) (is_target s h q) (dist_from s c.first_chunk.result) (dist_from s c.args.start) c.nearest.result is
    (λ y. ap (λ (k : ℕ). dist_from s k y) c.first_chunk.ensures.value ∙ same_start s c.args.start y (omega (arith, inside)))
    (c.nearest.ensures s c.first_chunk.ensures.inside (λ y t. target_inside s h q y (sym (is y) ∙ t)))
