use Rattle.std.proofs.Common.{◌≡◌, length, ◌+◌}
use Rattle.sql_bind.specs.Plans.{place_of}
use Rattle.sql_bind.proofs.items.place_of.Given as goal

abbrev pub invariant-loop-left : goal.invariant-loop-left
invariant-loop-left l = record {
  found : place_of l.keys l.column ≡ l.place + place_of l.left l.column;
  left : length l.keys ≡ l.place + length l.left;
}

abbrev pub decreases-loop-left : goal.decreases-loop-left
decreases-loop-left l = length l.left
