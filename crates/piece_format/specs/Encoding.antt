-- Words that were put one after another, and the cells that they were put from.
use Rattle.std.specs.Prelude.{◌≡◌, ◌<◌, ◌≤◌, ◌+◌, ◌*◌, ℕ, List, length, slice_index, take, drop}
use Rattle.table_core.specs.Table.{TableRows}
use Rattle.table_core.specs.declared.cell.Cell.{Cell}
use Rattle.table_sets.specs.declared.limits.TheConstants.{MOST_ROWS}
use Rattle.table_core.specs.declared.schema.Kind.{Kind}
use Rattle.piece_format.specs.declared.pieces.Piece.{Piece}
use Rattle.piece_format.specs.Cells.{FitsKind, cell_at, cell_of, is_null, value_word}
use Rattle.piece_format.specs.Words.{bits, first_words, slot_at, value}

-- a cell that its words give back, whatever the column that it fits
abbrev pub IsKept : Cell → Type 0
IsKept cell = (kind : Kind) (len : ℕ) → FitsKind kind len cell
    → cell_of kind len (is_null cell) (value_word cell) ≡ cell

-- the rows of the piece's chunk stand in the table, from one row on
pub record HoldsRows (q : Piece) (table : TableRows) (from : ℕ) : Type 0 where
  pub columns : length table.columns ≡ q.columns
  pub there : from + q.rows ≤ length table.rows
  pub few : length table.rows ≤ MOST_ROWS

-- those rows, and their cells
abbrev pub held_rows : Piece → TableRows → ℕ → List (List Cell)
held_rows q table from = take q.rows (drop from table.rows)

abbrev pub held_cell : Piece → TableRows → ℕ → ℕ → ℕ → Cell
held_cell q table from = cell_at (held_rows q table from)

-- so many words are the first ones of a piece, and each cell that has its value word among them is kept
pub record AreFirst (q : Piece) (cell : ℕ → ℕ → Cell) (count : ℕ) (words : List ℕ) : Type 0 where
  pub are : words ≡ first_words q cell count
  pub kept : (i row x : ℕ) → i < count → slot_at q i ≡ value row x → IsKept (cell row x)

-- Row layout: there is room for all words, and of each row so many cells, from the first column on, are put: their bits
-- stand in its mask word, in which no other bit is set, and their value words behind it
pub record AreFilled (q : Piece) (cell : ℕ → ℕ → Cell) (done : ℕ → ℕ) (words : List ℕ) : Type 0 where
  pub room : length words ≡ q.rows * (q.columns + 1)
  pub few : (row : ℕ) → row < q.rows → done row ≤ q.columns
  pub masks : (row : ℕ) → row < q.rows
      → slice_index words (row * (q.columns + 1)) ≡ bits (λ x. is_null (cell row x)) (done row)
  pub values : (row x : ℕ) → row < q.rows → x < done row
      → slice_index words (row * (q.columns + 1) + 1 + x) ≡ value_word (cell row x)
  pub kept : (row x : ℕ) → row < q.rows → x < done row → IsKept (cell row x)
