use Rattle.std.proofs.Common.{sym, ap, ◌∙◌, subst, arith}
use Rattle.baton.specs.Ringing.{RingerView, MayRing}
use Rattle.baton.proofs.Rungs.{counts, raises_rings}
use Rattle.baton.proofs.bell.Bell.raise.Goals as goal

pub load-rings-requires : goal.load-rings-requires
load-rings-requires c =
    let wide = c.self.invariant in
    let here = ap (λ (r : RingerView). r.bell) c.ringer.view_is ∙ c.requires.ring.0 ∙ sym c.self.view_is in
    let may = subst (λ (r : RingerView). MayRing c.args.worker r.rest) (sym c.ringer.view_is) c.requires.ring.1 in
    (here, omega (arith, wide, c.requires.worker), counts _ _ _ _ may c.requires.worker)

pub fetch_max-requires : goal.fetch_max-requires
fetch_max-requires c =
    let wide = c.self.invariant in
    let loaded = c.load-rings.ensures in
    let here = loaded.0 ∙ (ap (λ (r : RingerView). r.bell) c.ringer.view_is ∙ c.requires.ring.0 ∙ sym c.self.view_is) in
    (here, omega (arith, wide, c.requires.worker), raises_rings _ _ _ _ _ _ (ap (λ m. m.0) loaded.2) c.requires.worker c.saturating_add-more.ensures)
