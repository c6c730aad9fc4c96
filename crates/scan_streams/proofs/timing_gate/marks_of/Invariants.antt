use Rattle.std.proofs.Common.{◌≡◌, vec_len}
use Rattle.scan_streams.proofs.timing_gate.marks_of.Given as goal

abbrev pub invariant-loop-place : goal.invariant-loop-place
invariant-loop-place l = vec_len l.marks ≡ l.place
