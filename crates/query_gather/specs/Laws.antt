-- What holds of every answer.
use Rattle.std.specs.Prelude.{List}
use Rattle.table_core.specs.declared.cell.Cell.{Cell}
use Rattle.query_meaning.specs.Rows.{Numbered}
use Rattle.sql_bind.specs.declared.plan.Plan.{Plan}
use Rattle.sql_bind.specs.Meaning.{numbered}
use Rattle.query_gather.specs.declared.answer.Answer.{Answer}
use Rattle.query_gather.specs.Partial.{matching}
use Rattle.query_gather.specs.Answer.{IsAnswer, IsAnswerOver}
use Rattle.query_gather.specs.Agree.{Agree}

-- the answer over the matching rows of a table is the answer over the table
abbrev pub AnswersTable : Plan → List (List Cell) → Answer → Type 0
AnswersTable p table a = IsAnswerOver p (matching p (numbered 0 table)) a → IsAnswer p table a

-- over rows that agree the same rows match, and the answer is the same
pub record AnswerAgrees (p : Plan) (xs ys : List (Numbered Cell)) (a : Answer) : Type 0 where
  pub matching_agree : Agree p.columns (matching p xs) (matching p ys)
  pub same : IsAnswerOver p (matching p xs) a → IsAnswerOver p (matching p ys) a
