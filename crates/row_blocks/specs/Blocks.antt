-- A block: so many rows, whose cells stand in lanes, one for each column.
use Rattle.std.specs.Prelude.{◌≡◌, ◌≤◌, ℕ, List, map, length, slice_index_or}
use Rattle.std.specs.List.{range_with_len}
use Rattle.table_core.specs.declared.cell.Cell.{Cell}
use Rattle.table_sets.specs.declared.limits.TheConstants.{MOST_COLUMNS}
use Rattle.row_blocks.specs.declared.lane.Lane.{Lane}
use Rattle.row_blocks.specs.declared.block.TheConstants.{MOST_BLOCK_ROWS}
use Rattle.row_blocks.specs.Lanes.{lane_cell, no_lane}

-- how many columns and rows there are, and the lanes of the columns
pub record BlockView : Type 0 where
  pub width : ℕ
  pub count : ℕ
  pub lanes : List Lane

-- the lane at a place
abbrev pub lane_in : List Lane → ℕ → Lane
lane_in lanes x = slice_index_or lanes x no_lane

-- the lane of a column
abbrev pub lane_at : BlockView → ℕ → Lane
lane_at b x = lane_in b.lanes x

-- a row over the first lanes
abbrev pub row_of : List Lane → ℕ → ℕ → List Cell
row_of lanes width i = map (λ x. lane_cell (lane_in lanes x) i) (range_with_len 0 width)

-- a row: the cells of its columns
abbrev pub row_at : BlockView → ℕ → List Cell
row_at b i = row_of b.lanes b.width i

-- THE ROWS that a block stands for
abbrev pub rows_in : BlockView → List (List Cell)
rows_in b = map (row_at b) (range_with_len 0 b.count)

-- a block has few columns and rows
pub record IsBlock (b : BlockView) : Type 0 where
  pub narrow : b.width ≤ MOST_COLUMNS
  pub short : b.count ≤ MOST_BLOCK_ROWS
  pub lanes : length b.lanes ≡ MOST_COLUMNS
