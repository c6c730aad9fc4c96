use Rattle.std.proofs.Common.{◌≡◌, length}
use Rattle.trial_scans.proofs.reading.read_block.Given as goal

abbrev pub invariant-loop-i : goal.invariant-loop-i
invariant-loop-i g l = (l.scan ≡ l.fn.scan) × (length l.cells ≡ length l.fn.cells)
