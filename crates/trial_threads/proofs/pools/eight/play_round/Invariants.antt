use Rattle.std.proofs.Common.{◌≡◌}
use Rattle.trial_threads.proofs.pools.eight.play_round.Given as goal

abbrev pub invariant-loop-frame : goal.invariant-loop-frame
invariant-loop-frame g l = l.berth ≡ l.fn.berth
