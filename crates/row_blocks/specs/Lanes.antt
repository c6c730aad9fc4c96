-- A column of a block: for each of 64 rows a word and a null bit.
use Rattle.std.specs.Prelude.{◌==◌, ◌%◌, ◌^◌, ℕ, Bool, [], if◌then◌else◌, slice_index_or}
use Rattle.std.specs.Int.{bit_at, cast_signed, w64}
use Rattle.table_core.specs.declared.cell.Cell.{Cell}
use Rattle.table_core.specs.declared.cell.Cell.TheVariants.{Null, Int, Code}
use Rattle.row_blocks.specs.declared.lane.Holds.{Holds}
use Rattle.row_blocks.specs.declared.lane.Holds.TheVariants as holds
use Rattle.row_blocks.specs.declared.lane.Lane.{Lane}

-- the value that a word holds: a number in two's complement, or a code
abbrev pub held : Holds → ℕ → Cell
held holds.Numbers word = Int (cast_signed w64 word)
held holds.Codes word = Code (word % 2 ^ 32)

-- whether a row is NULL in a lane
abbrev pub is_null_at : Lane → ℕ → Bool
is_null_at l i = bit_at l.nulls i == 1

-- the word of a row
abbrev pub word_at : Lane → ℕ → ℕ
word_at l i = slice_index_or l.words i 0

-- the cell of a row
abbrev pub lane_cell : Lane → ℕ → Cell
lane_cell l i = if is_null_at l i then Null else held l.holds (word_at l i)

-- a lane of a block without such a column
abbrev pub no_lane : Lane
no_lane = record { holds = holds.Numbers; nulls = 0; words = [] }
