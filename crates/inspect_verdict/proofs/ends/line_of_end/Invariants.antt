use Rattle.std.proofs.Common.{◌≡◌, ◌+◌, ◌≤◌, take}
use Rattle.inspect_verdict.specs.Ends.{line_ends}
use Rattle.inspect_verdict.proofs.ends.line_of_end.Given as goal

abbrev pub invariant-loop-byte : goal.invariant-loop-byte
invariant-loop-byte l = record {
  line : l.line ≡ line_ends (take l.byte-index l.byte-items) + 1;
  few : l.line ≤ l.byte-index + 1;
}
