-- The values of a table as a kind of cell, and what cells stand for.
use Rattle.std.specs.Prelude.{ℕ, Bool, true, false, ℤ, pos, List, [], ◌∷◌}
use Rattle.table_core.specs.Value.{Value, none, number, value_cmp, IsCellOf}
use Rattle.table_core.specs.declared.cell.Cell.{Cell}
use Rattle.query_meaning.specs.Cells.{Cells}

abbrev pub is_value : Value → Bool
is_value none = false
is_value _ = true

-- the number of a value; a value that is no number counts nothing
abbrev pub int_of : Value → ℤ
int_of (number n) = n
int_of _ = pos 0

-- values, in which texts are texts
abbrev pub texts : Cells Value
texts = record { null = none; is_value = is_value; number = number; int_of = int_of; order = value_cmp }

-- a row has a cell for each dictionary, and each code is a place in its own
abbrev pub AreCellsOf : List (List (List ℕ)) → List Cell → Type 0
AreCellsOf [] [] = Unit {0}
AreCellsOf [] (c ∷ cells) = ⊥
AreCellsOf (d ∷ dicts) [] = ⊥
AreCellsOf (d ∷ dicts) (c ∷ cells) = IsCellOf d c × AreCellsOf dicts cells
