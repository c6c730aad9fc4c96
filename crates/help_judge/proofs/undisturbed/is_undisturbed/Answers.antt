use Rattle.std.proofs.Common.{◌∙◌, sym}
use Rattle.scan_story.specs.Views.{past}
use Rattle.help_judge.proofs.Histories.{undisturbed_is, undisturbed_true}
use Rattle.help_judge.proofs.undisturbed.is_undisturbed.Goals as goal

pub returns : goal.returns
returns c = (λ t. undisturbed_is c.args.s.now (past c.args.entries.now) (sym c.undisturbed.ensures ∙ t), λ k. c.undisturbed.ensures ∙ undisturbed_true c.args.s.now (past c.args.entries.now) k)
