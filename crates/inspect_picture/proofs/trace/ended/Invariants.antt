use Rattle.std.proofs.Common.{◌≡◌, ◌≤◌, ◌+◌, drop}
use Rattle.inspect_picture.specs.Trace.{ended}
use Rattle.inspect_picture.proofs.trace.ended.Given as goal

abbrev pub invariant-loop-byte : goal.invariant-loop-byte
invariant-loop-byte l = record {
  counted : l.lines + ended (drop l.byte-index l.bytes) ≡ ended l.bytes;
  few : l.lines ≤ l.byte-index;
}
