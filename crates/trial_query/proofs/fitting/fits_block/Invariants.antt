use Rattle.std.proofs.Common.{◌<◌, ℕ}
use Rattle.row_blocks.specs.Blocks.{row_at}
use Rattle.filter_zones.specs.Truth.{FitsRow}
use Rattle.trial_query.proofs.fitting.fits_block.Given as goal

-- the condition fits the first rows
abbrev pub invariant-loop-i : goal.invariant-loop-i
invariant-loop-i l = (j : ℕ) → j < l.i → FitsRow l.cond (row_at l.block j)
