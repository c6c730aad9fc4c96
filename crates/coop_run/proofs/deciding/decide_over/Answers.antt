use Rattle.std.proofs.Common.{refl}
use Rattle.run_output.proofs.Columns.{names_columns}
use Rattle.run_ends.specs.Devices.{depot_at}
use Rattle.run_ends.specs.Work.{work}
use Rattle.run_ends.proofs.Coming.{comes-of, unanswered-comes}
use Rattle.coop_run.proofs.deciding.decide_over.Goals as goal

pub decision_of-requires-clause-columns : goal.decision_of-requires-clause-columns
decision_of-requires-clause-columns g c =
    let i = c.args.inputs in
    let statements = c.requires.can.statements in
    let is = c.in-Ok.ensures.answered in
    rw (is.columns_are, is.outcomes_are) (names_columns i.loaded.table.columns i.loaded.dicts.items statements.0 i.outcomes.items statements.1)

pub decision_of-requires-clause-places : goal.decision_of-requires-clause-places
decision_of-requires-clause-places g c = rw c.in-Ok.ensures.answered.columns_are c.requires.can.places

pub returns-in-Ok-clause-comes : goal.returns-in-Ok-clause-comes
returns-in-Ok-clause-comes g c =
    let i = c.args.inputs in
    let a = c.in-Ok.answered in
    let is = c.in-Ok.ensures.answered in
    let made = c.decision_of.ensures in
    let w = work (g.P.Policy.name c.args.policy) (g.P.Policy.cursor c.args.policy) (depot_at (g.D.Depot.held c.args.depot) (g.D.Depot.gets c.args.depot) (g.D.Depot.faults c.args.depot))
    (depot_at (g.D.Depot.held a.depot) (g.D.Depot.gets a.depot) (g.D.Depot.faults a.depot)) a.ran.story.items a.ran.taken.items in
    rw (made.depot, made.ran) (comes-of i w a.answers.items c.decision_of.result.ending a.schema a.dicts.items a.outcomes.items a.answers.items _ _
    is.columns_are is.dicts_are is.outcomes_are refl (rw c.len-rows.ensures refl) refl is.are is.right
    c.requires.can.loaded.1.fits
    made.status made.text made.means made.err)

pub returns-in-Err-clause-comes : goal.returns-in-Err-clause-comes
returns-in-Err-clause-comes g c = unanswered-comes c.args.inputs _ c.in-Err.stop c.in-Err.ensures.unanswered
