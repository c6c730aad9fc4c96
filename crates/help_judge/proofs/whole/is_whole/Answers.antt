use Rattle.std.proofs.Common.{◌∙◌, sym}
use Rattle.scan_story.specs.Views.{past}
use Rattle.help_judge.proofs.Histories.{whole_is, whole_true}
use Rattle.help_judge.proofs.whole.is_whole.Goals as goal

pub returns : goal.returns
returns c =
    let h = past c.args.entries.now in
    (λ t. whole_is c.args.s.now h (sym c.is_complete-whole.ensures ∙ t), λ k. c.is_complete-whole.ensures ∙ whole_true c.args.s.now h k)
