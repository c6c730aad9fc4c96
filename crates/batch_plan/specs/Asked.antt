-- What contracts see of a task.
use Rattle.std.specs.Prelude.{ℕ}
use Rattle.sql_bind.specs.declared.plan.Plan.{Plan}

-- a query of a batch: its number, and its plan
pub record Asked : Type 0 where
  pub query : ℕ
  pub plan : Plan
