-- The pieces of a table: how many there are, and what each one is.
use Rattle.std.specs.Prelude.{◌≡◌, ◌≤◌, ◌<◌, ◌+◌, ◌-◌, ◌*◌, ◌/◌, ◌%◌, ℕ, List, length, min}
use Rattle.table_core.specs.Chunk.{chunk_count, chunk_end}
use Rattle.table_sets.specs.declared.limits.TheConstants.{MOST_CHUNK_ROWS, MOST_CHUNKS, MOST_COLUMNS, MOST_ROWS}
use Rattle.table_core.specs.declared.schema.Kind.{Kind}
use Rattle.piece_format.specs.declared.layout.Layout.{Layout}
use Rattle.piece_format.specs.declared.layout.Layout.TheVariants as layouts
use Rattle.piece_format.specs.declared.pieces.Piece.{Piece}

-- how a table is cut into pieces: the layout, the kind of each column and the length of its dictionary, how many
-- rows there are, and how many stand in each chunk but the last
pub record TableShape : Type 0 where
  pub layout : Layout
  pub kinds : List Kind
  pub dict_lens : List ℕ
  pub rows : ℕ
  pub per : ℕ

-- how many chunks there are
abbrev pub chunks : TableShape → ℕ
chunks s = chunk_count s.rows s.per

-- how many pieces a chunk of so many columns has
abbrev pub groups_in : Layout → ℕ → ℕ
groups_in layouts.Row columns = 1
groups_in layouts.Column columns = columns

abbrev pub groups : TableShape → ℕ
groups s = groups_in s.layout (length s.kinds)

-- how many pieces there are
abbrev pub pieces : TableShape → ℕ
pieces s = chunks s * groups s

-- the limits of a shape
pub record IsShape (s : TableShape) : Type 0 where
  pub some_columns : 1 ≤ length s.kinds
  pub few_columns : length s.kinds ≤ MOST_COLUMNS
  pub dictionaries : length s.dict_lens ≡ length s.kinds
  pub some_rows : 1 ≤ s.per
  pub short_chunks : s.per ≤ MOST_CHUNK_ROWS
  pub few_rows : s.rows ≤ MOST_ROWS
  pub few_chunks : chunks s ≤ MOST_CHUNKS

-- the chunk of a piece
abbrev pub chunk_of : TableShape → ℕ → ℕ
chunk_of s piece = piece / groups s

-- how many rows a chunk has
abbrev pub rows_in : TableShape → ℕ → ℕ
rows_in s c = chunk_end s.rows s.per c - c * s.per

-- what a piece is: its layout, the columns of the table, the rows of its chunk, and its place among the pieces of the
-- chunk
abbrev pub piece_at : TableShape → ℕ → Piece
piece_at s piece = record {
  layout = s.layout;
  columns = length s.kinds;
  rows = rows_in s (chunk_of s piece);
  group = piece % groups s;
}

-- the limits of a piece
pub record IsPiece (q : Piece) : Type 0 where
  pub some_columns : 1 ≤ q.columns
  pub few_columns : q.columns ≤ MOST_COLUMNS
  pub few_rows : q.rows ≤ MOST_CHUNK_ROWS
  pub group_in : q.group < groups_in q.layout q.columns

-- the piece is one of the shape
pub record IsPieceOf (s : TableShape) (q : Piece) : Type 0 where
  pub small : IsPiece q
  pub columns : q.columns ≡ length s.kinds

-- how many words a piece has: a mask word and a value word for each column in each row, or a value word for each row
-- and then a null word for each 64 rows
abbrev pub word_count : Layout → ℕ → ℕ → ℕ
word_count layouts.Row columns rows = rows * (columns + 1)
word_count layouts.Column columns rows = rows + (rows + 63) / 64

abbrev pub words_in : Piece → ℕ
words_in q = word_count q.layout q.columns q.rows

-- how many words the greatest piece has
abbrev pub frame_words : TableShape → ℕ
frame_words s = word_count s.layout (length s.kinds) (min s.per s.rows)
