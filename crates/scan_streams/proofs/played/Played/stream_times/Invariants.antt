use Rattle.std.proofs.Common.{◌≤◌, vec_len}
use Rattle.scan_streams.proofs.played.Played.stream_times.Given as goal

abbrev pub invariant-loop-last : goal.invariant-loop-last
invariant-loop-last l = vec_len l.times ≤ l.last
