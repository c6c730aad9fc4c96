use Rattle.std.proofs.Common.{◌≡◌, length}
use Rattle.trial_scans.proofs.reading.read_rows.Given as goal

abbrev pub invariant-loop-n : goal.invariant-loop-n
invariant-loop-n g l = (l.scan ≡ l.fn.scan) × (length l.cells ≡ length l.fn.cells)
