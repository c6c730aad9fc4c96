use Rattle.std.proofs.Common.{sym, ap, ◌∙◌, arith}
use Rattle.baton.specs.Visits.{GuestView}
use Rattle.baton.proofs.Counts.{raises}
use Rattle.baton.proofs.lobby.Lobby.try_raise.Goals as goal

pub compare_exchange-requires : goal.compare_exchange-requires
compare_exchange-requires c =
    let wide = c.self.invariant in
    let here = ap (λ (g : GuestView). g.lobby) c.guest.view_is ∙ c.requires.taken.0 ∙ sym c.self.view_is in
    (here, omega (arith, wide), raises _ _ _ _ (ap (λ (g : GuestView). g.standing) c.guest.view_is ∙ c.requires.taken.1))
