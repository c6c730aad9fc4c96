use Rattle.std.proofs.Common.{◌≡◌, ℕ, List, length, Some}
use Rattle.frame_pool.specs.Views.{filling}
use Rattle.trial_threads.proofs.pools.eight.refill.Given as goal

abbrev pub invariant-loop-i : goal.invariant-loop-i
invariant-loop-i g l = (ws : List ℕ) × (l.berth ≡ record l.fn.berth { fill = Some (filling l.frame ws) }) × (length ws ≡ l.i)
