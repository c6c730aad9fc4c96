use Rattle.std.proofs.Common.{◌≡◌, take}
use Rattle.inspect_referee.proofs.needs.copied.Given as goal

abbrev pub invariant-loop-n : goal.invariant-loop-n
invariant-loop-n l = l.copy.items ≡ take l.n-index l.needs
