use Rattle.std.proofs.Common.{[], ◌<◌, ℕ, get_or}
use Rattle.table_core.specs.Fitting.{kind_at}
use Rattle.table_core.specs.Value.{FitsColumn}
use Rattle.piece_format.specs.Cells.{cell_at}
use Rattle.trial_table.proofs.asked.fits_row.Given as goal

abbrev pub invariant-loop-x : goal.invariant-loop-x
invariant-loop-x l = (x : ℕ) → x < l.x → FitsColumn (kind_at l.columns x) (get_or l.dicts x []) (cell_at l.table.rows l.row x)
