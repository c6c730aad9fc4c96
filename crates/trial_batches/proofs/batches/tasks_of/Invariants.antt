use Rattle.std.proofs.Common.{◌≡◌, ◌≤◌, ◌+◌, ◌*◌, map, take}
use Rattle.std.specs.Prelude.{All}
use Rattle.table_sets.specs.Sets.{Rising}
use Rattle.batch_plan.specs.declared.task.Task.{Task}
use Rattle.trial_batches.proofs.batches.tasks_of.Given as goal

-- the first plans have their tasks
abbrev pub invariant-loop-plan : goal.invariant-loop-plan
invariant-loop-plan g l = record {
  plans : map (λ (t : Task). t.plan) l.tasks.items ≡ take l.plan-index l.plans;
  numbers : Rising 1 (map (λ (t : Task). t.query) l.tasks.items) (l.query + 1);
  scans : All (λ (t : Task). t.query * l.parts ≤ 256) l.tasks.items;
  count : l.query ≡ l.plan-index;
}
