use Rattle.std.proofs.Common.{◌≡◌, vec_len}
use Rattle.scan_streams.proofs.timing_gate.TimingGate.ends.Given as goal

abbrev pub invariant-loop-mark : goal.invariant-loop-mark
invariant-loop-mark g l = vec_len l.ends ≡ l.mark-index
