use Rattle.std.proofs.Common.{◌≡◌, ◌+◌, All, vec_len}
use Rattle.frame_pool.specs.Berths.{IsBlank, IsOf}
use Rattle.frame_pool.proofs.pool.Pool.deal.Given as goal

abbrev pub invariant-loop-i : goal.invariant-loop-i
invariant-loop-i g l = IsOf l.self l.first × IsBlank l.first × (vec_len l.all + 1 ≡ l.i) × All (λ b. IsOf l.self b × IsBlank b) l.all.items
