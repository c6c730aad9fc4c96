use Rattle.std.proofs.Common.{◌≡◌}
use Rattle.trial_threads.proofs.pools.eight.BerthWorkGame.work.Given as goal

abbrev pub invariant-loop-piece : goal.invariant-loop-piece
invariant-loop-piece g l = l.self ≡ l.fn.self
