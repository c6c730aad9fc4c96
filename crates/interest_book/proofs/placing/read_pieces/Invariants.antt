use Rattle.std.proofs.Common.{◌≡◌, ◌<◌, ◌≤◌, All, length}
use Rattle.interest_book.specs.Placed.{read_below}
use Rattle.interest_book.proofs.placing.read_pieces.Given as goal

abbrev pub invariant-loop-g : goal.invariant-loop-g
invariant-loop-g l = record {
  read : l.pieces ≡ read_below l.reads l.chunk l.groups l.g;
  few : length l.pieces ≤ l.g;
  small : All (λ p. p < 16384) l.pieces;
}
