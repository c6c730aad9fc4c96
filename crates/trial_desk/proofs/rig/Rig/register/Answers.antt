use Rattle.std.proofs.Common.{◌≡◌, ◌<◌, ◌∷◌, List, length, set, Some, None, sym, ◌∙◌, ap, subst, arith}
use Rattle.std.proofs.lemmas.List.{length-set}
use Rattle.scan_story.specs.declared.entry.Entry.TheVariants.{Register}
use Rattle.scan_story.specs.Views.{History, past}
use Rattle.scan_story.proofs.Prefixes.{past_next}
use Rattle.abm_policy.specs.Turns.{MayTurn}
use Rattle.trial_desk.specs.declared.seat.Seat.{Seat}
use Rattle.trial_desk.proofs.Seats.{seats_set, other_registered}
use Rattle.trial_desk.proofs.Rigs.{rigged_next}
use Rattle.trial_desk.proofs.rig.Rig.register.Goals as goal

pub invariant_of-self : goal.invariant_of-self
invariant_of-self g c =
    let o = g.S.Origin.origin in
    let s = o.setting in
    let w = c.args.w in
    let q = c.args.q in
    let es = c.self.inside.desk in
    let h = past es in
    let seats = c.self.inside.seats in
    let seat : Seat = record { on = Some q; holds = None } in
    let at : past c.register.new.self ≡ Register w q ∷ h = ap past c.register.ensures.entries ∙ past_next es (Register w q) in
    let may : MayTurn s (Register w q ∷ h) w q = subst (λ (k : History). MayTurn s k w q) at c.register.ensures.may in
    let inside : w < length seats = omega (arith, c.self.invariant.count, c.if-w-ge32.false) in
    rigged_next o es c.register.new.self (Register w q) seats (set seats w seat) c.self.inside.out c.register.ensures.entries tt c.self.invariant (length-set seats w seat ∙ c.self.invariant.count)
    (seats_set s h (Register w q ∷ h) seats w seat inside (record { holds = sym may.idle.holds_nothing; on = may.runs }) (λ v x ne k. other_registered s h w q v x k) c.self.invariant.remembered)
