use Rattle.std.proofs.Common.{◌≡◌, ◌<◌, ◌++◌, ◌∷◌, List, length, set, Some, sym, ◌∙◌, ap, subst, arith}
use Rattle.std.proofs.lemmas.List.{length-set}
use Rattle.scan_story.specs.declared.entry.Entry.{Entry}
use Rattle.scan_story.specs.declared.entry.Entry.TheVariants.{Plan, Evict, Fill, Deliver}
use Rattle.scan_story.specs.Views.{History, past}
use Rattle.scan_story.proofs.Prefixes.{past_next}
use Rattle.interest_book.proofs.Holding.{delivered}
use Rattle.abm_policy.specs.Loads.{evicts, fills}
use Rattle.abm_policy.specs.Turns.{RunsOn}
use Rattle.trial_desk.specs.declared.seat.Seat.{Seat}
use Rattle.trial_desk.specs.Rigged.{AreSeats}
use Rattle.trial_desk.proofs.Seats.{seats_set, seats_more, quiet_map, quiet_joined, other_delivered}
use Rattle.trial_desk.proofs.Rigs.{rigged_next}
use Rattle.trial_desk.proofs.rig.Rig.turn.Goals as goal

pub invariant_of-self : goal.invariant_of-self
invariant_of-self g c =
    let o = g.S.Origin.origin in
    let s = o.setting in
    let w = c.args.w in
    let q = c.in-Some.q in
    let d = c.in-Take.chunk in
    let es = c.self.inside.desk in
    let h = past es in
    let seats = c.self.inside.seats in
    let seat : Seat = record { on = Some q; holds = Some (record { query = q; chunk = d }) } in
    let takes = c.in-Take.ensures.answer in
    let at : past c.turn.new.self ≡ Deliver w q d ∷ h = ap past takes.added ∙ past_next es (Deliver w q d) in
    let small = c.in-Some.ensures.worker in
    let inside : w < length seats = omega (arith, c.self.invariant.count, small) in
    rigged_next o es c.turn.new.self (Deliver w q d) seats (set seats w seat) c.self.inside.out takes.added tt c.self.invariant (length-set seats w seat ∙ c.self.invariant.count)
    (seats_set s h (Deliver w q d ∷ h) seats w seat inside (record { holds = sym (delivered h w q d); on = subst (λ (k : History). RunsOn s k q w) at takes.runs }) (λ v x ne k. other_delivered s h w q d v x ne k) c.self.invariant.remembered)

pub invariant_of-self-in-Load : goal.invariant_of-self-in-Load
invariant_of-self-in-Load g c =
    let s = g.S.Origin.origin.setting in
    let w = c.args.w in
    let t = c.in-Load.ticket in
    let es = c.self.inside.desk in
    let seats = c.self.inside.seats in
    let a = c.in-Load.ensures.answer in
    let ev = evicts w a.load.evicted in
    let fl = fills w t.slots in
    record {
      told = c.self.invariant.told;
      count = c.self.invariant.count;
      remembered = subst (λ (xs : List Entry). AreSeats s (past xs) seats) (sym a.load.added)
          (seats_more s es (Plan w t.query t.chunk ∷ (ev ++ fl)) seats (tt, quiet_joined ev fl (quiet_map (Evict w) a.load.evicted (λ c. tt)) (quiet_map (λ b. Fill w b.0 b.1) t.slots (λ b. tt))) c.self.invariant.remembered);
      loading = record { load = a.load.underway; told = c.self.invariant.told; gets = a.depot.agrees.gets; faults = a.depot.faults; room = a.depot.room };
    }
