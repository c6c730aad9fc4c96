use Rattle.std.proofs.Common.{◌≡◌, ◌+◌, ◌≤◌}
use Rattle.prepare_look.specs.Spots.{first_spot, open_left}
use Rattle.prepare_look.proofs.open.open_quote.Given as goal

abbrev pub invariant-loop-i : goal.invariant-loop-i
invariant-loop-i l = record {
  at : l.spot.at ≡ l.i;
  line : l.spot.line ≤ l.i + 1;
  rest : open_left l.marks l.text l.spot l.mark ≡ open_left l.marks l.text first_spot 1;
}
