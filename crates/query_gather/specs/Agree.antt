-- Rows that a plan can't tell apart: a scan may read the columns of its plan alone.
use Rattle.std.specs.Prelude.{◌≡◌, ℕ, true, List, [], ◌∷◌, length}
use Rattle.table_sets.specs.Sets.{has}
use Rattle.table_core.specs.declared.cell.Cell.{Cell}
use Rattle.filter_zones.specs.Truth.{cell_at}
use Rattle.query_meaning.specs.Rows.{Numbered}

-- rows of the same length, whose cells at each of these columns are equal
pub record RowsAgree (columns : List ℕ) (a b : List Cell) : Type 0 where
  pub width : length a ≡ length b
  pub cells : (x : ℕ) → has columns x ≡ true → cell_at a x ≡ cell_at b x

-- the same numbers in the same order, and at each of them rows that agree
abbrev pub Agree : List ℕ → List (Numbered Cell) → List (Numbered Cell) → Type 0
Agree columns [] [] = Unit {0}
Agree columns (a ∷ xs) (b ∷ ys) = (a.0 ≡ b.0) × RowsAgree columns a.1 b.1 × Agree columns xs ys
Agree columns _ _ = ⊥
