use Rattle.std.proofs.Common.{List, [], ◌∷◌, map}
use Rattle.std.specs.Prelude.{All}
use Rattle.std.proofs.lemmas.List.Elements.{All-cons, All-head, All-nil, All-tail}
use Rattle.sql_bind.specs.declared.plan.Plan.{Plan}
use Rattle.batch_plan.specs.declared.task.Task.{Task}
use Rattle.batch_ends.specs.Tasks.{IsPlanOfTable}
use Rattle.trial_batches.proofs.batches.run_on_threads.Goals as goal

-- what holds of the plans of some tasks holds of each task's
each-plan : (P : Plan → Type 0) (ts : List Task) → All P (map (λ (t : Task). t.plan) ts) → All (λ (t : Task). P t.plan) ts
each-plan P [] h = All-nil (λ (t : Task). P t.plan)
each-plan P (t ∷ ts) h =
    let plans = map (λ (s : Task). s.plan) ts in
    All-cons (λ (s : Task). P s.plan) t ts (All-head P t.plan plans h) (each-plan P ts (All-tail P t.plan plans h))

pub run_batch-requires-clause-plans : goal.run_batch-requires-clause-plans
run_batch-requires-clause-plans g c κs within =
    let loaded = c.in_ok-loaded.loaded in
    rw c.deref-2.ensures.value
    (each-plan (IsPlanOfTable loaded.table.columns loaded.dicts.items) _ (rw (c.in_ok-tasks.ensures.plans, c.deref.ensures.value) c.in_ok-plans.ensures))
