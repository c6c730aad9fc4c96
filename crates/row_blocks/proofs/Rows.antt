-- The cells and rows of a block.
use Rattle.std.proofs.Common.{◌≡◌, ◌<◌, ℕ, length, get_or, arith, []}
use Rattle.std.proofs.lemmas.List.FromFn.{get_or-map-range_with_len, length-map-range_with_len}
use Rattle.table_core.specs.declared.cell.Cell.TheVariants.{Null}
use Rattle.row_blocks.specs.Lanes.{lane_cell}
use Rattle.row_blocks.specs.Blocks.{BlockView, lane_at, row_at, rows_in}

-- a row has a cell for each column
pub length-row : (b : BlockView) (i : ℕ) → length (row_at b i) ≡ b.width
length-row b i = length-map-range_with_len (λ x. lane_cell (lane_at b x) i) 0 b.width

-- the cell of a column in a row is that of its lane
pub cell-row : (b : BlockView) (i x : ℕ) → x < b.width → get_or (row_at b i) x Null ≡ lane_cell (lane_at b x) i
cell-row b i x low = get_or-map-range_with_len (λ y. lane_cell (lane_at b y) i) 0 b.width x x Null low (omega arith)

-- there are as many rows as the block counts
pub length-rows : (b : BlockView) → length (rows_in b) ≡ b.count
length-rows b = length-map-range_with_len (row_at b) 0 b.count

-- each row by its number
pub row-rows : (b : BlockView) (i : ℕ) → i < b.count → get_or (rows_in b) i [] ≡ row_at b i
row-rows b i low = get_or-map-range_with_len (row_at b) 0 b.count i i [] low (omega arith)
