-- Rows of cells, read for some columns: a place for each column of the table.
use Rattle.std.specs.Prelude.{◌≡◌, ◌<◌, ◌+◌, ◌-◌, ◌*◌, true, false, ℕ, List, length, slice_index_or}
use Rattle.table_sets.specs.Sets.{has}
use Rattle.table_core.specs.declared.cell.Cell.{Cell}
use Rattle.table_core.specs.declared.cell.Cell.TheVariants.{Null}
use Rattle.piece_format.specs.Cells.{FitsKind, cell_at, dict_len_at, kind_at}
use Rattle.piece_format.specs.Shape.{TableShape}
use Rattle.table_core.specs.Chunk.{chunk}
use Rattle.coop_outside.specs.Pieces.{Stored}
use Rattle.frame_pool.specs.Frames.{Told}
use Rattle.frame_rows.specs.Pins.{slot_at}
use Rattle.frame_rows.specs.Tables.{HoldsTable}

-- the cell in a place of a row
abbrev pub in_place : List Cell → ℕ → Cell
in_place cells x = slice_index_or cells x Null

-- each of these columns has a cell in its place that it may have
abbrev pub FitColumns : TableShape → List ℕ → List Cell → Type 0
FitColumns z columns cells = (x : ℕ) → has columns x ≡ true
    → FitsKind (kind_at z x) (dict_len_at z x) (in_place cells x)

-- each place of another column is NULL
abbrev pub OthersAreNull : List ℕ → List Cell → Type 0
OthersAreNull columns cells = (x : ℕ) → x < length cells → has columns x ≡ false → in_place cells x ≡ Null

-- each of these columns has in its place the cell that it has in a row of these rows
abbrev pub HasCellsOf : List (List Cell) → ℕ → List ℕ → List Cell → Type 0
HasCellsOf rows row columns cells = (x : ℕ) → has columns x ≡ true → in_place cells x ≡ cell_at rows row x

-- While a row is read

-- what comes into the place of a column: if it is one of these columns, a cell that it may have, which is the table's
-- in a row of a chunk where that is told; and else NULL
pub record IsForPlace (told : Told) (z : TableShape) (c row : ℕ) (columns : List ℕ) (x : ℕ) (cell : Cell) : Type 0 where
  pub fits : has columns x ≡ true → FitsKind (kind_at z x) (dict_len_at z x) cell
  pub other : has columns x ≡ false → cell ≡ Null
  pub is : (held : Stored) (rows : List (List Cell)) → HoldsTable held told z rows → has columns x ≡ true
      → cell ≡ cell_at (chunk rows z.per c) row x

-- the first places have what comes into them
abbrev pub AreForPlaces : Told → TableShape → ℕ → ℕ → List ℕ → ℕ → List Cell → Type 0
AreForPlaces told z c row columns count cells = (x : ℕ) → x < count
    → IsForPlace told z c row columns x (in_place cells x)

-- the columns of the pieces of a chunk in these slots, in the column layout
abbrev pub column_in : TableShape → ℕ → List (ℕ × ℕ) → ℕ → ℕ
column_in z c slots k = (slot_at slots k).1 - c * length z.kinds

-- the places of the columns in the first slots have what comes into them, and each place of another column is NULL
pub record AreForSlots (told : Told) (z : TableShape) (c row : ℕ) (columns : List ℕ) (slots : List (ℕ × ℕ)) (count : ℕ)
    (cells : List Cell) : Type 0 where
  pub first : (k : ℕ) → k < count
      → let x = column_in z c slots k in IsForPlace told z c row columns x (in_place cells x)
  pub others : OthersAreNull columns cells

-- each slot has a piece of the chunk, that of a column, in the column layout
abbrev pub AreOfColumns : TableShape → ℕ → List (ℕ × ℕ) → Type 0
AreOfColumns z c slots = (k : ℕ) → k < length slots → ((slot_at slots k).1 ≡ c * length z.kinds + column_in z c slots k)
    × (column_in z c slots k < length z.kinds)
