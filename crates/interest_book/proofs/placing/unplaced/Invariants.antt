use Rattle.std.proofs.Common.{◌≡◌, ◌≤◌, length, take}
use Rattle.interest_book.specs.Placed.{unplaced}
use Rattle.interest_book.proofs.placing.unplaced.Given as goal

abbrev pub invariant-loop-i : goal.invariant-loop-i
invariant-loop-i l = record {
  left : l.left ≡ unplaced l.buffer.places.items (take l.i l.pieces);
  few : length l.left ≤ l.i;
}
