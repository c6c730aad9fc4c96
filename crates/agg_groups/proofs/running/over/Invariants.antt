use Rattle.std.proofs.Common.{◌≡◌, ◌+◌, drop}
use Rattle.agg_groups.specs.Running.{over_shown}
use Rattle.agg_groups.proofs.running.over.Given as goal

abbrev pub invariant-loop-i : goal.invariant-loop-i
invariant-loop-i l = over_shown (l.i + 1) (drop l.i l.values) ≡ over_shown 1 l.values
