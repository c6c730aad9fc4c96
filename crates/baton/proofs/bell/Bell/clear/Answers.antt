use Rattle.std.proofs.Common.{arith}
use Rattle.baton.proofs.Rungs.{clears}
use Rattle.baton.proofs.bell.Bell.clear.Goals as goal

pub swap_new_seat-query-requires : goal.swap_new_seat-query-requires
swap_new_seat-query-requires c = let wide = c.self.invariant in (omega (arith, wide, c.requires), clears _ _ c.requires)
