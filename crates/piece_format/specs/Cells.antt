-- The words of one cell, and the cells that a table of a shape has.
use Rattle.std.specs.Prelude.{◌≡◌, ◌≢◌, ◌<◌, ℕ, Bool, true, false, nat_lt, if◌then◌else◌}
use Rattle.std.specs.Prelude.{List, [], length, map, slice_index, slice_index_or}
use Rattle.std.specs.Int.{cast_signed, cast_unsigned, w64}
use Rattle.table_core.specs.Chunk.{chunk}
use Rattle.table_core.specs.Table.{TableRows}
use Rattle.table_core.specs.declared.cell.Cell.{Cell}
use Rattle.table_core.specs.declared.cell.Cell.TheVariants.{Null, Int, Code}
use Rattle.table_core.specs.declared.schema.Kind.{Kind}
use Rattle.table_core.specs.declared.schema.Kind.TheVariants as kinds
use Rattle.piece_format.specs.Shape.{TableShape, chunk_of}

-- ---- one cell

abbrev pub is_null : Cell → Bool
is_null Null = true
is_null (Int n) = false
is_null (Code c) = false

-- the value word of a cell: a number's two's complement, a code itself, and 0 where there is no value
abbrev pub value_word : Cell → ℕ
value_word Null = 0
value_word (Int n) = cast_unsigned w64 n
value_word (Code c) = c

-- the cell of a column of texts: a word that is no code is no value
abbrev pub text_cell : ℕ → ℕ → Cell
text_cell len word = if nat_lt word len then Code word else Null

-- the cell of a null bit and a value word
abbrev pub cell_of : Kind → ℕ → Bool → ℕ → Cell
cell_of kind len true word = Null
cell_of kinds.Int len false word = Int (cast_signed w64 word)
cell_of kinds.Text len false word = text_cell len word
cell_of (kinds.Dec places) len false word = Int (cast_signed w64 word)

-- what a cell of a column may be: no value, a code below the length of the dictionary in a column of texts, a number in
-- any other
abbrev pub FitsKind : Kind → ℕ → Cell → Type 0
FitsKind kind len Null = Unit {0}
FitsKind kind len (Int n) = kind ≢ kinds.Text
FitsKind kind len (Code c) = (kind ≡ kinds.Text) × (c < len)

-- ---- a table

-- the kind of a column
abbrev pub kind_at : TableShape → ℕ → Kind
kind_at s x = slice_index_or s.kinds x kinds.Int

-- the length of a column's dictionary
abbrev pub dict_len_at : TableShape → ℕ → ℕ
dict_len_at s x = slice_index s.dict_lens x

abbrev pub cell_at : List (List Cell) → ℕ → ℕ → Cell
cell_at rows row x = slice_index_or (slice_index_or rows row []) x Null

-- the rows of a piece's chunk
abbrev pub piece_rows : TableShape → List (List Cell) → ℕ → List (List Cell)
piece_rows s rows piece = chunk rows s.per (chunk_of s piece)

-- the rows are those of a table of this shape, and each cell fits its column
pub record AreRowsOf (s : TableShape) (rows : List (List Cell)) : Type 0 where
  pub count : length rows ≡ s.rows
  pub fits : (row x : ℕ) → row < s.rows → x < length s.kinds
      → FitsKind (kind_at s x) (dict_len_at s x) (cell_at rows row x)

-- the table has this shape
pub record IsTableOf (s : TableShape) (table : TableRows) : Type 0 where
  pub columns : map (λ column. column.kind) table.columns ≡ s.kinds
  pub rows : AreRowsOf s table.rows
