use Rattle.std.proofs.Common.{sym, ap, ◌∙◌, arith}
use Rattle.baton.specs.Visits.{GuestView}
use Rattle.baton.proofs.Counts.{enters}
use Rattle.baton.proofs.lobby.Lobby.try_enter.Goals as goal

pub compare_exchange-requires : goal.compare_exchange-requires
compare_exchange-requires c =
    let wide = c.self.invariant in
    let here = ap (λ (g : GuestView). g.lobby) c.guest.view_is ∙ c.requires.read.0 ∙ sym c.self.view_is in
    (here, omega (arith, wide), enters _ _ _ _ _ (ap (λ (g : GuestView). g.standing) c.guest.view_is ∙ c.requires.read.1))
