use Rattle.std.proofs.Common.{◌∙◌, ap, sym}
use Rattle.scan_story.specs.Views.{past}
use Rattle.help_judge.specs.Tests.{chooses}
use Rattle.help_judge.proofs.choices.chooses.Goals as goal

pub returns-in-Plan : goal.returns-in-Plan
returns-in-Plan c = c.chooses_plan.ensures ∙ ap (chooses c.args.cursor.now c.args.s.now (past c.args.entries.now)) (sym c.in-Plan.is)

pub returns-in-Deliver : goal.returns-in-Deliver
returns-in-Deliver c = c.is_best_delivery.ensures ∙ ap (chooses c.args.cursor.now c.args.s.now (past c.args.entries.now)) (sym c.in-Deliver.is)
