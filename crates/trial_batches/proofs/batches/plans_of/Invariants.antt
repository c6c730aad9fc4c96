use Rattle.std.specs.Prelude.{All}
use Rattle.sql_bind.specs.declared.plan.Plan.{Plan}
use Rattle.batch_ends.specs.Tasks.{IsPlanOfTable}
use Rattle.trial_batches.proofs.batches.plans_of.Given as goal

-- each plan so far is one of the table
abbrev pub invariant-loop-statement : goal.invariant-loop-statement
invariant-loop-statement g l = record {
  planned : All (λ (p : Plan). IsPlanOfTable l.loaded.table.columns l.loaded.dicts.items p) l.plans.items;
}
