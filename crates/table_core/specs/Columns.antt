-- Columns of cells side by side, and the rows that they make.
use Rattle.std.specs.Prelude.{◌≡◌, ℕ, ℤ, Option, Some, None, List, All, length, map, slice_index_or}
use Rattle.std.specs.List.{range_with_len}
use Rattle.table_core.specs.declared.cell.Cell.{Cell}
use Rattle.table_core.specs.declared.cell.Cell.TheVariants.{Null, Int, Code}
use Rattle.table_core.specs.declared.cells.Cells.{Cells}
use Rattle.table_core.specs.declared.cells.Cells.TheVariants.{Numbers, Codes}

abbrev pub number_cell : Option ℤ → Cell
number_cell None = Null
number_cell (Some n) = Int n

abbrev pub code_cell : Option ℕ → Cell
code_cell None = Null
code_cell (Some c) = Code c

-- the cells of a column from top to bottom
abbrev pub column_cells : Cells → List Cell
column_cells (Numbers ns) = map number_cell ns
column_cells (Codes cs) = map code_cell cs

-- ---- columns side by side

-- the cell of a column in a row
abbrev pub cell_of_column : ℕ → Cells → Cell
cell_of_column row column = slice_index_or (column_cells column) row Null

-- a row: one cell of each column
abbrev pub row_of_columns : List Cells → ℕ → List Cell
row_of_columns columns row = map (cell_of_column row) columns

-- so many rows
abbrev pub rows_of_columns : ℕ → List Cells → List (List Cell)
rows_of_columns rows columns = map (row_of_columns columns) (range_with_len 0 rows)

-- there are so many columns, each so long; where there are none there are no rows
pub record AreColumnsOf (width rows : ℕ) (columns : List Cells) : Type 0 where
  pub count : length columns ≡ width
  pub long : All (λ column. length (column_cells column) ≡ rows) columns
  pub none : width ≡ 0 → rows ≡ 0
