use Rattle.std.proofs.Common.{◌≡◌, ◌<◌, ℕ, get_or}
use Rattle.table_core.specs.declared.cell.Cell.TheVariants.{Null}
use Rattle.row_blocks.specs.Lanes.{lane_cell}
use Rattle.row_blocks.specs.Blocks.{lane_in}
use Rattle.row_blocks.proofs.block.read_row.Given as goal

-- the first cells are read
abbrev pub invariant-loop-x : goal.invariant-loop-x
invariant-loop-x l = (x : ℕ) → x < l.x → get_or l.cells x Null ≡ lane_cell (lane_in l.lanes x) l.row
