-- Columns side by side: how many rows they make, the row at a place, and its cells.
use Rattle.std.proofs.Common.{◌≡◌, ◌∙◌, ◌<◌, ℕ, List, [], arith, ap, length, get_or}
use Rattle.std.specs.Prelude.{All}
use Rattle.std.proofs.lemmas.List.{get_or-map, length-map}
use Rattle.std.proofs.lemmas.List.Elements.{All-from_get_or}
use Rattle.std.proofs.lemmas.List.FromFn.{get_or-map-range_with_len, length-map-range_with_len}
use Rattle.table_core.specs.declared.cell.Cell.TheVariants.{Null}
use Rattle.table_core.specs.declared.cells.Cells.{Cells}
use Rattle.table_core.specs.Columns.{AreColumnsOf, cell_of_column, column_cells, row_of_columns, rows_of_columns}

pub length-rows : (rows : ℕ) (columns : List Cells) → length (rows_of_columns rows columns) ≡ rows
length-rows rows columns = length-map-range_with_len (row_of_columns columns) 0 rows

pub length-row : (columns : List Cells) (row : ℕ) → length (row_of_columns columns row) ≡ length columns
length-row columns row = length-map columns (cell_of_column row)

-- the row at a place
pub row-is : (rows : ℕ) (columns : List Cells) (row : ℕ) → row < rows → get_or (rows_of_columns rows columns) row [] ≡ row_of_columns columns row
row-is rows columns row low = get_or-map-range_with_len (row_of_columns columns) 0 rows row row [] low (omega arith)

-- the cell of a column in a row
pub cell-is : (columns : List Cells) (row column : ℕ) (d : Cells) → column < length columns → get_or (row_of_columns columns row) column Null ≡ get_or (column_cells (get_or columns column d)) row Null
cell-is columns row column d low = get_or-map (cell_of_column row) columns column d Null low

pub cell-in : (rows : ℕ) (columns : List Cells) (row column : ℕ) (d : Cells) → row < rows → column < length columns
    → get_or (get_or (rows_of_columns rows columns) row []) column Null ≡ get_or (column_cells (get_or columns column d)) row Null
cell-in rows columns row column d there low = rw (row-is rows columns row there) (cell-is columns row column d low)

-- each column of a table is as long as the table
pub column-long : (width rows : ℕ) (columns : List Cells) (column : ℕ) (cells : Cells) → AreColumnsOf width rows columns → column < length columns → cells ≡ get_or columns column cells
    → length (column_cells cells) ≡ rows
column-long width rows columns column cells are low is = ap (λ c. length (column_cells c)) is ∙ are.long column cells low

pub columns-reach : (width rows : ℕ) (columns : List Cells) (row : ℕ) → AreColumnsOf width rows columns → row < rows → All (λ column. row < length (column_cells column)) columns
columns-reach width rows columns row are low = λ k d inside. omega (arith, are.long k d inside, low)

-- each row has a cell for each column
pub rows-wide : (width rows : ℕ) (columns : List Cells) → AreColumnsOf width rows columns → All (λ row. length row ≡ width) (rows_of_columns rows columns)
rows-wide width rows columns are =
    All-from_get_or (λ row. length row ≡ width) (rows_of_columns rows columns) []
    (λ i low. ap length (row-is rows columns i (omega (arith, low, length-rows rows columns))) ∙ length-row columns i ∙ are.count)
