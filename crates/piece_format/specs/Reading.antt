-- The cell of a row and a column of a piece, where `word` gives the word at each place.
use Rattle.std.specs.Prelude.{◌≡◌, ◌<◌, ◌+◌, ◌*◌, ◌/◌, ◌%◌, ◌==◌, ℕ, Bool, List}
use Rattle.std.specs.Int.{bit_at}
use Rattle.table_core.specs.declared.cell.Cell.{Cell}
use Rattle.piece_format.specs.declared.layout.Layout.{Layout}
use Rattle.piece_format.specs.declared.layout.Layout.TheVariants as layouts
use Rattle.piece_format.specs.declared.pieces.Piece.{Piece}
use Rattle.piece_format.specs.Cells.{cell_at, cell_of, dict_len_at, kind_at, piece_rows}
use Rattle.piece_format.specs.Shape.{TableShape, piece_at}

-- where the word with a cell's null bit stands, and which bit of it is the cell's
abbrev pub null_place_in : Layout → Piece → ℕ → ℕ
null_place_in layouts.Row q row = row * (q.columns + 1)
null_place_in layouts.Column q row = q.rows + row / 64

abbrev pub null_place : Piece → ℕ → ℕ
null_place q row = null_place_in q.layout q row

abbrev pub null_bit_in : Layout → ℕ → ℕ → ℕ
null_bit_in layouts.Row row x = x
null_bit_in layouts.Column row x = row % 64

abbrev pub null_bit : Piece → ℕ → ℕ → ℕ
null_bit q row x = null_bit_in q.layout row x

-- where a cell's value word stands
abbrev pub value_place_in : Layout → Piece → ℕ → ℕ → ℕ
value_place_in layouts.Row q row x = row * (q.columns + 1) + 1 + x
value_place_in layouts.Column q row x = row

abbrev pub value_place : Piece → ℕ → ℕ → ℕ
value_place q row x = value_place_in q.layout q row x

-- the piece has this column
abbrev pub HasColumnIn : Layout → Piece → ℕ → Type 0
HasColumnIn layouts.Row q x = x < q.columns
HasColumnIn layouts.Column q x = x ≡ q.group

abbrev pub HasColumn : Piece → ℕ → Type 0
HasColumn q x = HasColumnIn q.layout q x

-- a cell's null bit
abbrev pub null_in : Piece → (ℕ → ℕ) → ℕ → ℕ → Bool
null_in q word row x = bit_at (word (null_place q row)) (null_bit q row x) == 1

-- the cell of a row and a column
abbrev pub cell_in : TableShape → Piece → (ℕ → ℕ) → ℕ → ℕ → Cell
cell_in s q word row x = cell_of (kind_at s x) (dict_len_at s x) (null_in q word row x) (word (value_place q row x))

-- the words give back the cells of the piece's chunk
abbrev pub GivesBack : TableShape → List (List Cell) → ℕ → (ℕ → ℕ) → Type 0
GivesBack s rows piece word =
    let q = piece_at s piece in
    (row x : ℕ) → row < q.rows → HasColumn q x → cell_in s q word row x ≡ cell_at (piece_rows s rows piece) row x
