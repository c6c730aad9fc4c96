use Rattle.std.proofs.Common.{◌≡◌, ◌<◌, ℕ, get_or}
use Rattle.table_core.specs.declared.cell.Cell.TheVariants.{Null}
use Rattle.table_core.specs.Columns.{row_of_columns}
use Rattle.table_core.proofs.table.read_row.Given as goal

-- the first cells are read
abbrev pub invariant-loop-place : goal.invariant-loop-place
invariant-loop-place l = (x : ℕ) → x < l.place → get_or l.into x Null ≡ get_or (row_of_columns l.columns l.row) x Null
