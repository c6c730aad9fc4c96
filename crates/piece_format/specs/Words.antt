-- The words of a piece, said for each place: the value word of a cell, or a word of null bits.
use Rattle.std.specs.Prelude.{◌+◌, ◌-◌, ◌*◌, ◌/◌, ◌%◌, ◌^◌, ◌==◌, ℕ, zero, suc}
use Rattle.std.specs.Prelude.{Bool, nat_lt, if◌then◌else◌, min, List, map}
use Rattle.std.specs.List.{range_with_len}
use Rattle.table_core.specs.declared.cell.Cell.{Cell}
use Rattle.piece_format.specs.declared.layout.Layout.{Layout}
use Rattle.piece_format.specs.declared.layout.Layout.TheVariants as layouts
use Rattle.piece_format.specs.declared.pieces.Piece.{Piece}
use Rattle.piece_format.specs.Cells.{cell_at, is_null, piece_rows, value_word}
use Rattle.piece_format.specs.Shape.{TableShape, piece_at, words_in}

-- the value word of the cell in a row and a column, or a word of null bits, of which so many name cells: each by its
-- row and its column
pub data Slot : Type 0 where
  value : ℕ → ℕ → Slot
  nulls : ℕ → (ℕ → ℕ) → (ℕ → ℕ) → Slot

-- Row layout: each row is a mask word, whose bit x is that of column x, and then the value word of each column.
-- Column layout: the value words of all rows, and then null words, of which word k has the bits of the 64 rows from row
-- 64 * k on.
abbrev pub slot_in : Layout → Piece → ℕ → Slot
slot_in layouts.Row q i =
    let width = q.columns + 1 in
    if i % width == 0 then nulls q.columns (λ _. i / width) (λ bit. bit) else value (i / width) (i % width - 1)
slot_in layouts.Column q i =
    let from = 64 * (i - q.rows) in
    if nat_lt i q.rows then value i q.group else nulls (min 64 (q.rows - from)) (λ bit. from + bit) (λ _. q.group)

abbrev pub slot_at : Piece → ℕ → Slot
slot_at q i = slot_in q.layout q i

-- the number whose bit b is set exactly where b is below the count and passes
unfoldable pub bits : (ℕ → Bool) → ℕ → ℕ
bits p zero = 0
bits p (suc b) = bits p b + (if p b then 2 ^ b else 0)

-- the word that stands there, where `cell` gives the cell of each row and column
abbrev pub slot_word : (ℕ → ℕ → Cell) → Slot → ℕ
slot_word cell (value row x) = value_word (cell row x)
slot_word cell (nulls count row x) = bits (λ b. is_null (cell (row b) (x b))) count

-- the first words of a piece with these cells, and all of them
abbrev pub first_words : Piece → (ℕ → ℕ → Cell) → ℕ → List ℕ
first_words q cell count = map (λ i. slot_word cell (slot_at q i)) (range_with_len 0 count)

abbrev pub words_of : Piece → (ℕ → ℕ → Cell) → List ℕ
words_of q cell = first_words q cell (words_in q)

-- the words of a piece of these rows
unfoldable pub piece_words : TableShape → List (List Cell) → ℕ → List ℕ
piece_words s rows piece = words_of (piece_at s piece) (cell_at (piece_rows s rows piece))
