-- What a query is answered.
use Rattle.std.specs.Prelude.{◌≡◌, ◌⊎◌, ◌+◌, ℕ, ℤ, Bool, true, false, List, [], ◌∷◌, All, Some, None, MatchOption}
use Rattle.table_core.specs.declared.cell.Cell.{Cell}
use Rattle.table_core.specs.Answer.{AreCellsOf}
use Rattle.query_meaning.specs.Cells.{codes}
use Rattle.query_meaning.specs.Meaning.{fits, meaning, overflow}
use Rattle.query_meaning.specs.declared.item.Item.{Item}
use Rattle.query_meaning.specs.declared.item.Item.TheVariants as items
use Rattle.query_meaning.specs.GroupText as groups_text
use Rattle.query_meaning.specs.RowText as rows_text
use Rattle.query_meaning.specs.Rows.{Numbered, rows_meaning}
use Rattle.sql_bind.specs.declared.plan.Plan.{Plan}
use Rattle.sql_bind.specs.Meaning.{plan_meaning, plan_overflow, plan_rows}
use Rattle.scan_story.specs.declared.cause.Cause.{Cause}
use Rattle.query_gather.specs.declared.answer.Answer.{Answer}
use Rattle.query_gather.specs.declared.answer.Answer.TheVariants.{Rows, Picked, Overflow, Stopped}
use Rattle.query_gather.specs.Partial.{unnumbered}

-- the answer to a plan over its matching rows, unless the query was stopped
abbrev pub IsAnswerOver : Plan → List (Numbered Cell) → Answer → Type 0
IsAnswerOver p rows (Rows r) = (p.rows ≡ None) × (r ≡ meaning codes p.items.items p.keys.items (unnumbered rows))
    × (overflow codes p.items.items p.keys.items (unnumbered rows) ≡ None)
IsAnswerOver p rows (Picked r) = MatchOption p.rows ⊥ (λ q. r ≡ rows_meaning codes q rows)
IsAnswerOver p rows (Overflow item total) = (p.rows ≡ None)
    × (overflow codes p.items.items p.keys.items (unnumbered rows) ≡ Some (item, total))
IsAnswerOver p rows (Stopped why) = Unit {0}

-- THE ANSWER to a plan over the rows of a table, unless the query was stopped
abbrev pub IsAnswer : Plan → List (List Cell) → Answer → Type 0
IsAnswer p table (Rows r) = (p.rows ≡ None) × (r ≡ plan_meaning p table) × (plan_overflow p table ≡ None)
IsAnswer p table (Picked r) = MatchOption p.rows ⊥ (λ q. r ≡ plan_rows p q table)
IsAnswer p table (Overflow item total) = (p.rows ≡ None) × (plan_overflow p table ≡ Some (item, total))
IsAnswer p table (Stopped why) = Unit {0}

-- the item of this number is a sum; the first item has the number n
abbrev pub IsSumOf : ℕ → List Item → ℕ → Type 0
IsSumOf n [] item = ⊥
IsSumOf n (items.Sum x ∷ rest) item = (item ≡ n) ⊎ IsSumOf (n + 1) rest item
IsSumOf n (i ∷ rest) item = IsSumOf (n + 1) rest item

-- A SUM WITHOUT AN ANSWER: a sum of the plan, its items counted from 1, whose total is no whole number of 64 bits
pub record IsLostSum (p : Plan) (item : ℕ) (total : ℤ) : Type 0 where
  pub grouped : p.rows ≡ None
  pub sum : IsSumOf 1 p.items.items item
  pub beyond : fits total ≡ false

-- each cell of the answer can be read in the dictionary of its column; a sum without an answer is one of the plan, and
-- doesn't fit
abbrev pub CanBeWritten : List (List (List ℕ)) → Plan → Answer → Type 0
CanBeWritten dicts p (Rows r) = (p.rows ≡ None)
    × All (AreCellsOf (groups_text.columns_of p.keys.items p.items.items) dicts) r
CanBeWritten dicts p (Picked r) = MatchOption p.rows ⊥ (λ q. All (AreCellsOf (rows_text.columns_of q.columns) dicts) r)
CanBeWritten dicts p (Overflow item total) = IsLostSum p item total
CanBeWritten dicts p (Stopped why) = Unit {0}

abbrev pub is_stopped : Answer → Bool
is_stopped (Stopped why) = true
is_stopped _ = false

-- where the query was stopped, this is why
abbrev pub StopsFor : Cause → Answer → Type 0
StopsFor cause (Stopped why) = why ≡ cause
StopsFor cause _ = Unit {0}
