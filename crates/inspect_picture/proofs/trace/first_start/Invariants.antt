use Rattle.std.proofs.Common.{◌≡◌, ◌≤◌, ◌+◌, drop}
use Rattle.inspect_picture.specs.Trace.{lines_before, trace_from}
use Rattle.inspect_picture.proofs.trace.first_start.Given as goal

abbrev pub invariant-loop-place : goal.invariant-loop-place
invariant-loop-place l = record {
  trace : trace_from l.at_line (drop l.place l.bytes) ≡ trace_from l.at_begin l.bytes;
  lines : l.lines + lines_before l.at_line (drop l.place l.bytes) ≡ lines_before l.at_begin l.bytes;
  few : l.lines ≤ l.place;
}
