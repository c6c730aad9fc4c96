use Rattle.std.proofs.Common.{◌++◌, ◌∷◌, [], List, take, Option, sym, subst}
use Rattle.scan_story.specs.declared.entry.Entry.{Entry}
use Rattle.scan_story.specs.declared.entry.Entry.TheVariants.{Filled, Failed}
use Rattle.scan_story.specs.Views.{past}
use Rattle.abm_policy.specs.Loads.{all_filled, pieces}
use Rattle.std.specs.Prelude.{slice_index}
use Rattle.trial_desk.specs.declared.out.Out.{Out}
use Rattle.trial_desk.specs.Rigged.{AreSeats, IsRigged}
use Rattle.trial_desk.proofs.Seats.{seats_more, quiet_map, quiet_joined}
use Rattle.trial_desk.proofs.rig.Rig.close.Goals as goal

pub invariant_of-self-in-None : goal.invariant_of-self-in-None
invariant_of-self-in-None g c =
    let o = g.S.Origin.origin in
    let out = c.in-Some.out in
    let seats = c.self.inside.seats in
    subst (IsRigged o c.filled.new.self seats) (sym c.take.ensures.after) (record {
      told = c.self.invariant.told;
      count = c.self.invariant.count;
      remembered = subst (λ (xs : List Entry). AreSeats o.setting (past xs) seats) (sym c.filled.ensures.entries)
          (seats_more o.setting c.self.inside.desk (all_filled out.worker out.slots) seats (quiet_map (λ b. Filled out.worker b.0 b.1) out.slots (λ b. tt)) c.self.invariant.remembered);
      loading = c.filled.ensures.closed;
    })

pub invariant_of-self-in-Some-read : goal.invariant_of-self-in-Some-read
invariant_of-self-in-Some-read g c =
    let o = g.S.Origin.origin in
    let out = c.in-Some.out in
    let done = c.in-Some-read.done in
    let seats = c.self.inside.seats in
    let first = all_filled out.worker (take done out.slots) in
    let last = Failed out.worker out.query (slice_index (pieces out.slots) done) c.in-Some-read.why in
    subst (IsRigged o c.failed.new.self seats) (sym c.take.ensures.after) (record {
      told = c.self.invariant.told;
      count = c.self.invariant.count;
      remembered = subst (λ (xs : List Entry). AreSeats o.setting (past xs) seats) (sym c.failed.ensures.entries)
          (seats_more o.setting c.self.inside.desk (first ++ last ∷ []) seats (quiet_joined first (last ∷ []) (quiet_map (λ b. Filled out.worker b.0 b.1) (take done out.slots) (λ b. tt)) (tt, tt)) c.self.invariant.remembered);
      loading = c.failed.ensures.closed;
    })
