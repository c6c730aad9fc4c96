use Rattle.std.proofs.Common.{◌≡◌, ◌+◌, ◌≤◌}
use Rattle.prepare_look.specs.Spots.{lines_left}
use Rattle.prepare_look.proofs.spot.next_begin.Given as goal

abbrev pub invariant-loop-i : goal.invariant-loop-i
invariant-loop-i l = record {
  at : l.spot.at ≡ l.i;
  line : l.spot.line ≤ l.i + 1;
  left : lines_left l.marks l.text l.spot ≡ lines_left l.marks l.text l.fn.spot;
}
