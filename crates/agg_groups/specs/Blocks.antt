-- The chosen rows of a block, and the cells of its columns.
use Rattle.std.specs.Prelude.{◌≡◌, ◌≤◌, ◌<◌, ℕ, List, map, false}
use Rattle.std.specs.Int.{bit_at}
use Rattle.std.specs.List.{range_with_len}
use Rattle.table_core.specs.declared.cell.Cell.{Cell}
use Rattle.row_blocks.specs.declared.lane.Lane.{Lane}
use Rattle.row_blocks.specs.Blocks.{BlockView, rows_in}
use Rattle.row_blocks.specs.Chosen.{chosen}
use Rattle.row_blocks.specs.Lanes.{lane_cell, is_null_at}

-- the chosen rows of a block
abbrev pub chosen_in : BlockView → ℕ → List (List Cell)
chosen_in b word = chosen word (rows_in b)

-- the cells of a column in the first rows
abbrev pub cells_in : Lane → ℕ → List Cell
cells_in lane n = map (lane_cell lane) (range_with_len 0 n)

-- no row from n on is chosen
abbrev pub AreInBlock : ℕ → ℕ → Type 0
AreInBlock n word = (i : ℕ) → n ≤ i → bit_at word i ≡ 0

-- no row whose cell is NULL is chosen
abbrev pub HaveValues : Lane → ℕ → Type 0
HaveValues lane word = (i : ℕ) → i < 64 → bit_at word i ≡ 1 → is_null_at lane i ≡ false
