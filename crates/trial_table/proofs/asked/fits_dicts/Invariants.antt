use Rattle.std.proofs.Common.{[], ◌<◌, ℕ, length, get_or}
use Rattle.table_core.specs.Fitting.{kind_at}
use Rattle.table_core.specs.Value.{FitsColumn}
use Rattle.piece_format.specs.Cells.{cell_at}
use Rattle.trial_table.proofs.asked.fits_dicts.Given as goal

abbrev pub invariant-loop-row : goal.invariant-loop-row
invariant-loop-row l = (row x : ℕ) → row < l.row → x < length l.table.columns → FitsColumn (kind_at l.table.columns x) (get_or l.dicts x []) (cell_at l.table.rows row x)
