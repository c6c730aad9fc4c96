use Rattle.std.proofs.Common.{◌≡◌}
use Rattle.trial_threads.proofs.pools.many.play.Given as goal

abbrev pub invariant-loop-places : goal.invariant-loop-places
invariant-loop-places g l = l.berths ≡ l.fn.berths
