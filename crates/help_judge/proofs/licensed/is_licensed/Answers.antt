use Rattle.std.proofs.Common.{◌∙◌, sym}
use Rattle.scan_story.specs.Views.{past}
use Rattle.help_judge.proofs.Histories.{licensed_is, licensed_true}
use Rattle.help_judge.proofs.licensed.is_licensed.Goals as goal

pub returns : goal.returns
returns c = (λ t. licensed_is c.args.told c.args.from c.args.to (past c.args.entries.now) (sym c.licensed.ensures ∙ t), λ k. c.licensed.ensures ∙ licensed_true c.args.told c.args.from c.args.to (past c.args.entries.now) k)
