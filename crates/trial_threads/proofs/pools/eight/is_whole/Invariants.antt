use Rattle.std.proofs.Common.{◌≡◌}
use Rattle.trial_threads.proofs.pools.eight.is_whole.Given as goal

abbrev pub invariant-loop-i : goal.invariant-loop-i
invariant-loop-i g l = l.berth ≡ l.fn.berth
