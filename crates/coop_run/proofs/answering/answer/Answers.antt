use Rattle.std.proofs.Common.{◌≡◌, ◌≤◌, ◌∙◌, ◌*◌, length, arith, refl, ap}
use Rattle.query_gather.specs.Answer.{CanBeWritten, IsAnswer}
use Rattle.scan_story.specs.Views.{past}
use Rattle.batch_ends.specs.Tasks.{IsPlanOfTable}
use Rattle.run_stops.specs.Outcomes.{plans_of}
use Rattle.run_ends.specs.Devices.{depot_at}
use Rattle.run_ends.specs.Running.{setting_in, zones_in}
use Rattle.run_ends.specs.Tasks.{tasks_in}
use Rattle.run_ends.specs.Work.{work}
use Rattle.run_ends.proofs.Asked.{only_asked}
use Rattle.run_ends.proofs.Coming.{is-worked}
use Rattle.run_ends.proofs.GivenTexts.{plans-of-table}
use Rattle.run_ends.proofs.Losing.{lost_by}
use Rattle.run_ends.proofs.Tasked.{each-answer, each-task, scans-few, tasks-rise, zip-length}
use Rattle.coop_run.proofs.answering.answer.Goals as goal

pub run_batch-requires-clause-plans : goal.run_batch-requires-clause-plans
run_batch-requires-clause-plans g c κs within =
    let i = c.args.inputs in
    let statements = c.requires.can.statements in
    rw (c.deref-2.ensures.value, c.in-Ok.ensures.tasks, c.deref.ensures.value)
    (each-task (IsPlanOfTable i.loaded.table.columns i.loaded.dicts.items) 1 i.outcomes.items
    (plans-of-table i.loaded.table.columns i.loaded.dicts.items statements.0 i.outcomes.items c.plans_fit.ensures statements.1))

pub run_batch-requires-clause-numbers : goal.run_batch-requires-clause-numbers
run_batch-requires-clause-numbers g c κs within = rw (c.deref-2.ensures.value, c.in-Ok.ensures.tasks, c.deref.ensures.value) (tasks-rise 1 1 257 c.args.inputs.outcomes.items (omega arith) (omega (arith, c.requires.can.few)))

pub run_batch-requires-clause-scans : goal.run_batch-requires-clause-scans
run_batch-requires-clause-scans g c κs within =
    let i = c.args.inputs in
    let n = length i.outcomes.items in
    let few : n * i.options.parts ≤ 256 = omega (arith, c.requires.can.scans) in
    rw (c.deref-2.ensures.value, c.in-Ok.ensures.tasks, c.deref.ensures.value) (scans-few i.options.parts n 1 i.outcomes.items few (omega arith))

pub returns-clause-answered : goal.returns-clause-answered
returns-clause-answered g c =
    let i = c.args.inputs in
    let os = i.outcomes.items in
    let end = c.in-Ok-run_batch.end in
    let told = c.in-Ok-run_batch.ensures in
    let tasks : c.deref-2.result.now ≡ tasks_in 1 os = c.deref-2.ensures.value ∙ c.in-Ok.ensures.tasks ∙ ap (tasks_in 1) c.deref.ensures.value in
    let w = work (g.P.Policy.name c.args.policy) (g.P.Policy.cursor c.args.policy) (depot_at (g.D.Depot.held c.args.depot) (g.D.Depot.gets c.args.depot) (g.D.Depot.faults c.args.depot))
    (depot_at (g.D.Depot.held end.depot) (g.D.Depot.gets end.depot) (g.D.Depot.faults end.depot)) end.ran.story.items end.ran.taken.items in
    let written = each-answer (CanBeWritten i.loaded.dicts.items) 1 os end.answers.items (rw tasks at told.written) in
    record {
      outcomes_are = refl;
      columns_are = told.schema;
      dicts_are = told.dicts;
      are = record {
        each = zip-length (CanBeWritten i.loaded.dicts.items) (plans_of os) end.answers.items written;
        worked = is-worked i w c.requires.can (rw tasks at told.story) (rw tasks at told.taken) (rw tasks at told.took) (rw tasks at told.registers) told.stored;
        lost = lost_by (past end.ran.story.items) (zones_in i) i.options.workers i.options.parts os
            (λ q none. only_asked (setting_in i (g.P.Policy.name c.args.policy) (g.P.Policy.cursor c.args.policy)) (past end.ran.story.items) q (rw tasks at told.story).whole.legal none)
            end.answers.items (rw tasks at told.lost);
        written = written;
      };
      right = λ tells. each-answer (λ p a. IsAnswer p i.loaded.table.rows a) 1 os end.answers.items (rw tasks at (told.answers tells));
    }
