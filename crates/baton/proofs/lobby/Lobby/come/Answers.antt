use Rattle.std.proofs.Common.{arith}
use Rattle.baton.proofs.Counts.{comes}
use Rattle.baton.proofs.lobby.Lobby.come.Goals as goal

pub load_new_seat-calls-requires : goal.load_new_seat-calls-requires
load_new_seat-calls-requires c = let wide = c.self.invariant in (omega (arith, wide), comes _)
