use Rattle.std.proofs.Common.{◌≡◌}
use Rattle.trial_scans.proofs.reading.read_again.Given as goal

abbrev pub invariant-loop-x : goal.invariant-loop-x
invariant-loop-x g l = l.scan ≡ l.fn.scan
