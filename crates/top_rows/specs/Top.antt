-- Kept rows, and the lists of rows that they stand for.
use Rattle.std.specs.Prelude.{◌≤◌, false, ℕ, [], ◌∷◌, length, ◌≡◌, List, IsPermutation}
use Rattle.std.specs.Ordering.{is_lt}
use Rattle.table_core.specs.declared.cell.Cell.{Cell}
use Rattle.query_meaning.specs.Cells.{codes}
use Rattle.query_meaning.specs.declared.order.Order.{Order}
use Rattle.query_meaning.specs.Rows.{row_cmp, RowQuery, Numbered, AreDistinct, first_rows}

-- what is kept: the plan, and numbered rows in order
pub record Kept : Type 0 where
  pub plan : RowQuery
  pub rows : List (Numbered Cell)

-- the kept rows stand for these rows: no two have one number, and the first ones are kept
pub record Stands (t : Kept) (rows : List (Numbered Cell)) : Type 0 where
  pub distinct : AreDistinct rows
  pub first : t.rows ≡ first_rows codes t.plan rows

-- the kept rows stand for these rows in some order
pub record StandsInSomeOrder (t : Kept) (rows : List (Numbered Cell)) : Type 0 where
  pub order : List (Numbered Cell)
  pub stands : Stands t order
  pub same : IsPermutation order rows

-- the row stands before none of these
abbrev pub StandsBeforeNone : List Order → Numbered Cell → List (Numbered Cell) → Type 0
StandsBeforeNone orders r [] = Unit {0}
StandsBeforeNone orders r (q ∷ rows) = (is_lt (row_cmp codes orders r q) ≡ false) × StandsBeforeNone orders r rows

-- the row can't be among the first ones: there are as many as are asked for, and it stands before none of them
pub record IsBehind (limit : ℕ) (orders : List Order) (rows : List (Numbered Cell)) (r : Numbered Cell) : Type 0 where
  pub full : limit ≤ length rows
  pub last : StandsBeforeNone orders r rows
