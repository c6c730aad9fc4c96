use Rattle.std.proofs.Common.{◌≡◌, take}
use Rattle.inspect_referee.proofs.load.list_of.Given as goal

abbrev pub invariant-loop-i : goal.invariant-loop-i
invariant-loop-i l = l.list ≡ take l.i l.pieces
