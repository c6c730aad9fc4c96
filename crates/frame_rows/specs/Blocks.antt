-- Rows read as a block: a column of the block for each column of the table.
use Rattle.std.specs.Prelude.{◌≡◌, ◌<◌, ◌≤◌, ◌+◌, ◌%◌, ◌==◌, ℕ, List}
use Rattle.std.specs.Int.{bit_at}
use Rattle.table_core.specs.Chunk.{chunk}
use Rattle.table_core.specs.declared.cell.Cell.{Cell}
use Rattle.row_blocks.specs.declared.lane.Holds.{Holds}
use Rattle.row_blocks.specs.declared.lane.Lane.{Lane}
use Rattle.row_blocks.specs.Lanes.{lane_cell}
use Rattle.row_blocks.specs.Blocks.{BlockView, row_at}
use Rattle.piece_format.specs.Cells.{FitsKind, cell_at, dict_len_at, kind_at}
use Rattle.piece_format.specs.Reading.{null_bit, null_place}
use Rattle.piece_format.specs.Shape.{TableShape}
use Rattle.piece_format.specs.declared.layout.Layout.{Layout}
use Rattle.piece_format.specs.declared.layout.Layout.TheVariants as layouts
use Rattle.piece_format.specs.declared.pieces.Piece.{Piece}
use Rattle.coop_outside.specs.Pieces.{Stored}
use Rattle.frame_pool.specs.declared.view.Pin.{Pin}
use Rattle.frame_pool.specs.Frames.{Told}
use Rattle.frame_pool.specs.Steps.{IsWordOf}
use Rattle.frame_rows.specs.declared.span.Span.{Span}
use Rattle.frame_rows.specs.Rows.{IsForPlace, OthersAreNull, column_in, in_place}
use Rattle.frame_rows.specs.Tables.{HoldsTable}

-- this holds of each row of the block, by its number in the block
abbrev pub EachRow : (ℕ → List Cell → Type 0) → BlockView → Type 0
EachRow holds b = (i : ℕ) → i < b.count → holds i (row_at b i)

-- While a block is read

-- some rows, at most 64, from a multiple of 64 on, among so many
abbrev pub IsSpan : ℕ → Span → Type 0
IsSpan rows s = (s.first % 64 ≡ 0) × (0 < s.count) × (s.count ≤ 64) × (s.first + s.count ≤ rows)

-- how far apart the value words of a column stand in two rows that follow one another
abbrev pub row_step_in : Layout → ℕ → ℕ
row_step_in layouts.Row columns = columns + 1
row_step_in layouts.Column columns = 1

abbrev pub row_step : Piece → ℕ
row_step q = row_step_in q.layout q.columns

-- a bit of the word is set exactly where the column's cell is NULL in a row of the piece, by the word that is told to
-- have its null bit
abbrev pub HasNullBits : Told → List Pin → ℕ → Piece → Span → ℕ → ℕ → Type 0
HasNullBits told pins f q s x nulls = (i : ℕ) → i < s.count → (word : ℕ)
    × IsWordOf told pins f (null_place q (s.first + i)) word
    × ((bit_at nulls i == 1) ≡ (bit_at word (null_bit q (s.first + i) x) == 1))

-- a lane of as many words as there are
abbrev pub lane_of : Holds → ℕ → List ℕ → Lane
lane_of holds nulls words = record { holds = holds; nulls = nulls; words = words }

-- the lane's cells may stand in a column, and where that is told they are the column's in these rows of a chunk
pub record IsLaneOf (told : Told) (z : TableShape) (c : ℕ) (s : Span) (x : ℕ) (lane : Lane) : Type 0 where
  pub fits : (i : ℕ) → i < s.count → FitsKind (kind_at z x) (dict_len_at z x) (lane_cell lane i)
  pub is : (held : Stored) (rows : List (List Cell)) → HoldsTable held told z rows → (i : ℕ) → i < s.count
      → lane_cell lane i ≡ cell_at (chunk rows z.per c) (s.first + i) x

-- the columns that were read have in each row of the block what comes into their places in a row of the chunk, and each
-- column that isn't asked for is NULL
pub record HasRead (told : Told) (z : TableShape) (c first : ℕ) (columns : List ℕ) (read : ℕ → Type 0)
    (b : BlockView) : Type 0 where
  pub places : (i x : ℕ) → i < b.count → read x → IsForPlace told z c (first + i) columns x (in_place (row_at b i) x)
  pub others : EachRow (λ i cells. OthersAreNull columns cells) b

-- every column was read
abbrev pub HasReadAll : Told → TableShape → ℕ → ℕ → List ℕ → BlockView → Type 0
HasReadAll told z c first columns b = HasRead told z c first columns (λ x. x < b.width) b

-- the column is that of a piece in one of the first slots
abbrev pub IsReadSlot : TableShape → ℕ → List (ℕ × ℕ) → ℕ → ℕ → Type 0
IsReadSlot z c slots count x = (k : ℕ) × (k < count) × (x ≡ column_in z c slots k)

-- the columns of the pieces in the first slots were read
abbrev pub HasReadSlots : Told → TableShape → ℕ → ℕ → List ℕ → List (ℕ × ℕ) → ℕ → BlockView → Type 0
HasReadSlots told z c first columns slots count b = HasRead told z c first columns (IsReadSlot z c slots count) b
