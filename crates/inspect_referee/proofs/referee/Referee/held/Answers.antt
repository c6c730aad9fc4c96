use Rattle.std.proofs.Common.{◌∙◌, None, get_or, ap, List, Option}
use Rattle.scan_story.specs.declared.view.Hold.{Hold}
use Rattle.inspect_referee.specs.Seen.{setting, seen}
use Rattle.inspect_referee.proofs.Bounds.{hold_is}
use Rattle.inspect_referee.proofs.referee.Referee.held.Goals as goal

pub returns : goal.returns
returns c =
    let r = c.args.self.now in
    c.held_in.ensures ∙ (ap (λ (os : List (Option Hold)). get_or os c.args.w None) c.deref.ensures.value ∙ hold_is r.book (setting r) (seen r) r.holds.items c.args.w c.requires.stands c.requires.workers c.requires.holds)
