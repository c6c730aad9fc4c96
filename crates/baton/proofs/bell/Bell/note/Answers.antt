use Rattle.std.proofs.Common.{ap, arith}
use Rattle.baton.proofs.Rungs.{hears, lies}
use Rattle.baton.proofs.bell.Bell.note.Goals as goal

pub load_new_seat-rings-requires : goal.load_new_seat-rings-requires
load_new_seat-rings-requires c = let wide = c.self.invariant in (omega (arith, wide, c.requires.worker), hears _ _ c.requires.worker)

pub store-requires : goal.store-requires
store-requires c =
    let wide = c.self.invariant in
    let came = c.load_new_seat-rings.ensures in
    (came.0, omega (arith, wide, c.requires.worker), lies _ _ _ _ _ _ (ap (λ m. m.0) came.2) c.requires.worker c.requires.query)
