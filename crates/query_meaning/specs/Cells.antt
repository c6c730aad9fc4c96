-- What a query's meaning needs to know of a kind of cell, and the cells of the program as such a kind.
use Rattle.std.specs.Prelude.{Bool, true, false, ℤ, pos}
use Rattle.std.specs.declared.cmp.Ordering.{Ordering}
use Rattle.table_core.specs.declared.cell.Cell.{Cell}
use Rattle.table_core.specs.declared.cell.Cell.TheVariants.{Null, Int}
use Rattle.table_core.specs.Cell.{cell_cmp}

-- no value, what is a value, numbers, and the order
pub record Cells (C : Type 0) : Type 0 where
  pub null : C
  pub is_value : C → Bool
  pub number : ℤ → C
  pub int_of : C → ℤ
  pub order : C → C → Ordering

abbrev pub is_value : Cell → Bool
is_value Null = false
is_value _ = true

-- the number of a cell; a cell that is no number counts nothing
abbrev pub int_of : Cell → ℤ
int_of (Int n) = n
int_of _ = pos 0

-- cells whose texts are codes
abbrev pub codes : Cells Cell
codes = record { null = Null; is_value = is_value; number = Int; int_of = int_of; order = cell_cmp }
