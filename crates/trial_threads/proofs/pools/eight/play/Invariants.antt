use Rattle.std.proofs.Common.{◌≡◌}
use Rattle.trial_threads.proofs.pools.eight.play.Given as goal

abbrev pub invariant-loop-frame : goal.invariant-loop-frame
invariant-loop-frame g l = l.berths ≡ l.fn.berths
