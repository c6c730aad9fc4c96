use Rattle.std.proofs.Common.{◌≡◌, ◌*◌, ◌++◌, length, take, drop}
use Rattle.std.specs.List.{All}
use Rattle.table_sets.specs.Sets.{AreMembers}
use Rattle.batch_plan.specs.declared.task.Task.{Task}
use Rattle.batch_plan.specs.Scans.{needs, scans, scans_from}
use Rattle.batch_plan.proofs.needs.needs_of.Given as goal

-- the needs of the tasks before this one are there
abbrev pub invariant-loop-task : goal.invariant-loop-task
invariant-loop-task l =
    let workers = l.options.workers in
    let parts = l.options.parts in
    record {
      count : length l.needs.items ≡ l.task-index * parts;
      needs : l.needs.items ++ needs l.zones parts (scans_from workers parts (l.task-index * parts) (drop l.task-index l.tasks)) ≡ needs l.zones parts (scans workers parts l.tasks);
      columns : All (λ (t : Task). AreMembers 16 t.plan.columns) (take l.task-index l.tasks);
    }
