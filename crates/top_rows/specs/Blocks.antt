-- The rows of a block with their numbers in the table.
use Rattle.std.specs.Prelude.{◌+◌, ◌++◌, ℕ, List, map, take}
use Rattle.std.specs.List.{range_with_len}
use Rattle.table_core.specs.declared.cell.Cell.{Cell}
use Rattle.row_blocks.specs.Blocks.{BlockView, row_at}
use Rattle.query_meaning.specs.Rows.{Numbered}

-- a row of a block whose first row has this number
abbrev pub numbered_at : ℕ → BlockView → ℕ → Numbered Cell
numbered_at first b i = (first + i, row_at b i)

-- THE ROWS OF A BLOCK, numbered on from the first one
abbrev pub numbered_rows : ℕ → BlockView → List (Numbered Cell)
numbered_rows first b = map (numbered_at first b) (range_with_len 0 b.count)

-- it holds of these rows followed by the first ones of more rows
pub record HoldsInPart {T : Type 0} (Holds : List T → Type 0) (rows more : List T) : Type 0 where
  pub count : ℕ
  pub holds : Holds (rows ++ take count more)
