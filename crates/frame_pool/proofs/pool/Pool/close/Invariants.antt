use Rattle.std.proofs.Common.{All}
use Rattle.frame_pool.specs.Berths.{IsBlank, IsOf}
use Rattle.frame_pool.proofs.pool.Pool.close.Given as goal

abbrev pub invariant-loop-other : goal.invariant-loop-other
invariant-loop-other g l = IsOf l.self l.first × All (λ b. IsOf l.self b × IsBlank b) l.berths.items

abbrev pub decreases-loop-other : goal.decreases-loop-other
decreases-loop-other g l = goal.left-loop-other g l
