use Rattle.std.proofs.Common.{◌≤◌, ◌+◌}
use Rattle.cscan.proofs.pausing.others_with.Given as goal

abbrev pub invariant-loop-q : goal.invariant-loop-q
invariant-loop-q l = l.found + l.left ≤ 256
