use Rattle.std.proofs.Common.{◌∙◌, ap, sym}
use Rattle.scan_story.specs.Views.{past}
use Rattle.help_judge.specs.Tests.{allows}
use Rattle.help_judge.proofs.may.allows.Goals as goal

pub returns-in-Plan : goal.returns-in-Plan
returns-in-Plan c = c.may_plan.ensures ∙ ap (allows c.args.s.now (past c.args.entries.now)) (sym c.in-Plan.is)

pub returns-in-Deliver : goal.returns-in-Deliver
returns-in-Deliver c = c.may_deliver.ensures ∙ ap (allows c.args.s.now (past c.args.entries.now)) (sym c.in-Deliver.is)

pub returns-in-End : goal.returns-in-End
returns-in-End c = c.may_end.ensures ∙ ap (allows c.args.s.now (past c.args.entries.now)) (sym c.in-End.is)
