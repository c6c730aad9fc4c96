use Rattle.std.proofs.Common.{◌≡◌, ◌≤◌, drop}
use Rattle.inspect_picture.specs.Trace.{quoted_from, quoted_len}
use Rattle.inspect_picture.proofs.trace.quoted_len.Given as goal

abbrev pub invariant-loop-place : goal.invariant-loop-place
invariant-loop-place l = record {
  value : quoted_from l.place l.found (drop l.place l.printed) ≡ quoted_len l.printed;
  few : l.found ≤ l.place;
}
