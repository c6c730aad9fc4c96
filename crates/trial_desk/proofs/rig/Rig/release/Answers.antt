use Rattle.std.proofs.Common.{◌≡◌, ◌<◌, ◌∷◌, List, length, get_or, set, Some, None, sym, ◌∙◌, arith}
use Rattle.std.proofs.lemmas.List.{length-set}
use Rattle.scan_story.specs.declared.entry.Entry.TheVariants.{Release}
use Rattle.scan_story.specs.Views.{past}
use Rattle.interest_book.proofs.Holding.{released}
use Rattle.trial_desk.specs.declared.seat.Seat.{Seat}
use Rattle.trial_desk.specs.Rigged.{empty_seat}
use Rattle.trial_desk.proofs.Seats.{seats_set, other_released, on_released}
use Rattle.trial_desk.proofs.Rigs.{rigged_next}
use Rattle.trial_desk.proofs.rig.Rig.release.Goals as goal

pub invariant_of-self : goal.invariant_of-self
invariant_of-self g c =
    let o = g.S.Origin.origin in
    let s = o.setting in
    let w = c.args.w in
    let q = c.in-Some.hold.query in
    let d = c.in-Some.hold.chunk in
    let es = c.self.inside.desk in
    let h = past es in
    let seats = c.self.inside.seats in
    let was : Seat = get_or seats w empty_seat in
    let seat : Seat = record { on = was.on; holds = None } in
    let small : w < 32 = omega (arith, c.if-w-ge32.false) in
    let inside : w < length seats = omega (arith, c.self.invariant.count, small) in
    rigged_next o es c.release.new.self (Release w q d) seats (set seats w seat) c.self.inside.out c.release.ensures.entries tt c.self.invariant (length-set seats w seat ∙ c.self.invariant.count)
    (seats_set s h (Release w q d ∷ h) seats w seat inside (record { holds = sym (released h w q d); on = on_released s h w q d was.on (c.self.invariant.remembered w small).on }) (λ v x ne k. other_released s h w q d v x ne k) c.self.invariant.remembered)
