-- The plain answers to a batch: over the whole table, where nothing stops a query.
use Rattle.std.specs.Prelude.{◌≡◌, false, List, [], ◌∷◌, ◌++◌}
use Rattle.std.specs.List.{AllZip}
use Rattle.table_core.specs.declared.cell.Cell.{Cell}
use Rattle.sql_bind.specs.Meaning.{numbered}
use Rattle.sql_bind.specs.declared.plan.Plan.{Plan}
use Rattle.query_gather.specs.Answer.{IsAnswer, IsAnswerOver, is_stopped}
use Rattle.query_gather.specs.Partial.{matching}
use Rattle.query_gather.specs.declared.answer.Answer.{Answer}
use Rattle.run_stops.specs.Outcomes.{plans_of}
use Rattle.run_stops.specs.declared.outcome.Outcome.{Outcome}

-- the answer to a plan over the rows of a table, and not that its query was stopped
pub record IsPlain (rows : List (List Cell)) (p : Plan) (a : Answer) : Type 0 where
  pub answer : IsAnswer p rows a
  pub over : IsAnswerOver p (matching p (numbered 0 rows)) a
  pub runs : is_stopped a ≡ false

-- the answers to plans, one each, in order
abbrev pub ArePlain : List (List Cell) → List Plan → List Answer → Type 0
ArePlain rows plans answers = AllZip (IsPlain rows) plans answers

-- the answer to a statement was added, where it has a plan
pub record AddsAnswer (rows : List (List Cell)) (o : Outcome) (old new : List Answer) : Type 0 where
  pub added : List Answer
  pub whole : new ≡ old ++ added
  pub plain : ArePlain rows (plans_of (o ∷ [])) added
