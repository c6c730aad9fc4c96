-- The weight falls at each own step that writes nothing.
use Rattle.std.proofs.Common.{◌≡◌, ◌==◌, ◌+◌, ◌<◌, true, false, ℕ, refl, sym, ◌∙◌, ap, subst, arith, inl, inr}
use Rattle.story_laws.proofs.Bools.{not_both, same_number, self_number}
use Rattle.waiting_core.specs.Put.{put}
use Rattle.waiting_core.specs.Lobby as lobby
use Rattle.waiting_core.specs.Bell as bell
use Rattle.waiting_core.specs.Whole as machine
use Rattle.waiting_core.specs.Lobby.Stage.{Out, Holds, Comes, Read, Entered, Looked, Asleep, Gave, Found, Taken, Raised}
use Rattle.waiting_core.specs.Bell.Ring.{Idle, Rings, Cleared, Counted}
use Rattle.waiting_core.specs.Whole.{Whole, Task, After, Does, does_next, made_due, owed, stays_active}
use Rattle.waiting_core.specs.Whole.After.{Turning, Working, Loading, Over}
use Rattle.waiting_core.specs.Whole.Task.{Away, Turns, LiesDown, Rests, Rises, Works, Loads, Looks, Sees, RingsFor}
use Rattle.waiting_core.specs.Whole.Does.{InLobby, Registers, Decides, CountsItself, ReadsRings, NotesPlace, FallsAsleep, StaysUp, Starts, GetsUp, HasRisen, CountsDown, TurnsTo, RingsForNone, FindsNobody, FindsOne, FindsNone, Settles, Stops, StopsLate, SeesNobody, SeesFed, SeesHungry, SeesAnother, HasSeen, IsToRing, ClearsPlace, CountsRings, RaisesRings, WakesOther, WakesNobody, HasRung, CallsNext}
use Rattle.waiting_core.proofs.Sounds.{is_idle, may_ring}
use Rattle.waiting_core.proofs.Wholes.{no_ring_yet}
use Rattle.waiting_core.proofs.Holding.{Kept}
use Rattle.waiting_core.proofs.Going.{Ordered, fits, is_own_ring}
use Rattle.waiting_ends.specs.Order.{Act, Crew, InOrder, IsPlace, Step, is_own, is_served, writes}
use Rattle.waiting_ends.specs.Order.Act.{Makes, Releases}
use Rattle.waiting_ends.proofs.Weights.{late, parts, weight}
use Rattle.waiting_ends.proofs.Falling as falling

-- whoever is to turn is up
up_to_turn : (y : bell.Rest) → fits Turns y ≡ true → y ≡ bell.Rest.Up
up_to_turn bell.Rest.Up e = refl
up_to_turn (bell.Rest.Reads n) e = absurd (not_both false e refl)
up_to_turn (bell.Rest.Lies n) e = absurd (not_both false e refl)
up_to_turn (bell.Rest.Asleep n) e = absurd (not_both false e refl)

module _ (k w : ℕ) (r : Crew) (lt : w < k) where
  abbrev Falls : Does → Whole → Type 0
  Falls d z = weight k (record { whole = z; served = put r.served w (is_served d (r.served w)) }) < weight k r

  abbrev FallsIn : lobby.Does → lobby.Lobby → Type 0
  FallsIn d l = Falls (InLobby d) (record r.whole { lobby = l })

  in_lobby : (d : lobby.Does) (l : lobby.Lobby) → lobby.Step k w d r.whole.lobby l → InOrder k w (InLobby d) r → machine.is_own (InLobby d) ≡ true → FallsIn d l
  in_lobby lobby.Does.Wants l s o own = subst (FallsIn lobby.Does.Wants) (sym s.1) (falling.walks k w r lt lobby.Does.Wants Comes r.whole.lobby.free r.whole.lobby.waiting (record (parts r w) { at = Out }) (rw (s.0) refl) (omega arith))
  in_lobby lobby.Does.Takes l s o own = subst (FallsIn lobby.Does.Takes) (sym s.2) (falling.walks k w r lt lobby.Does.Takes Holds false r.whole.lobby.waiting (record (parts r w) { at = Comes }) (rw (s.0) refl) (omega arith))
  in_lobby lobby.Does.Reads l s o own = subst (FallsIn lobby.Does.Reads) (sym s.1) (falling.walks k w r lt lobby.Does.Reads (Read r.whole.lobby.calls) r.whole.lobby.free r.whole.lobby.waiting (record (parts r w) { at = Comes }) (rw (s.0) refl) (let f = ap late (self_number r.whole.lobby.calls) in omega (arith, f)))
  in_lobby lobby.Does.Enters l s o own = subst (FallsIn lobby.Does.Enters) (sym s.2) (falling.walks k w r lt lobby.Does.Enters (Entered s.0) r.whole.lobby.free (r.whole.lobby.waiting + 1) (record (parts r w) { at = Read s.0 }) (rw (s.1) refl) (omega arith))
  in_lobby lobby.Does.Finds l s o own = subst (FallsIn lobby.Does.Finds) (sym s.3) (falling.walks k w r lt lobby.Does.Finds Holds false r.whole.lobby.waiting (record (parts r w) { at = Entered s.0 }) (rw (s.1) refl) (omega arith))
  in_lobby lobby.Does.Misses l s o own = subst (FallsIn lobby.Does.Misses) (sym s.3) (falling.walks k w r lt lobby.Does.Misses (Looked s.0) r.whole.lobby.free r.whole.lobby.waiting (record (parts r w) { at = Entered s.0 }) (rw (s.1) refl) (omega arith))
  in_lobby lobby.Does.Sleeps l s o own = subst (FallsIn lobby.Does.Sleeps) (sym s.3) (falling.walks k w r lt lobby.Does.Sleeps (Asleep s.0) r.whole.lobby.free r.whole.lobby.waiting (record (parts r w) { at = Looked s.0 }) (rw (s.1) refl) (omega arith))
  in_lobby lobby.Does.Stays l s o own = subst (FallsIn lobby.Does.Stays) (sym s.2) (falling.walks k w r lt lobby.Does.Stays Comes r.whole.lobby.free r.whole.lobby.waiting (record (parts r w) { at = Looked s.0 }) (rw (s.1) refl) (let f = falling.late_is (s.0 == r.whole.lobby.calls) (λ e. o (s.1 ∙ ap (λ (n : ℕ). Looked n) (same_number s.0 r.whole.lobby.calls e))) in omega (arith, f)))
  in_lobby lobby.Does.Starts l s o own = absurd (not_both false own refl)
  in_lobby lobby.Does.Gives l s o own = subst (FallsIn lobby.Does.Gives) (sym s.1) (falling.walks k w r lt lobby.Does.Gives Gave true r.whole.lobby.waiting (record (parts r w) { at = Holds; served = true }) (rw (s.0, o) refl) (omega arith))
  in_lobby lobby.Does.SeesNone l s o own = subst (FallsIn lobby.Does.SeesNone) (sym s.2) (falling.walks k w r lt lobby.Does.SeesNone Out r.whole.lobby.free r.whole.lobby.waiting (record (parts r w) { at = Gave }) (rw (s.0) refl) (omega arith))
  in_lobby lobby.Does.SeesSome l s o own = subst (FallsIn lobby.Does.SeesSome) (sym s.1) (falling.walks k w r lt lobby.Does.SeesSome Found r.whole.lobby.free r.whole.lobby.waiting (record (parts r w) { at = Gave }) (rw (s.0) refl) (omega arith))
  in_lobby lobby.Does.IsLate l s o own = subst (FallsIn lobby.Does.IsLate) (sym s.2) (falling.walks k w r lt lobby.Does.IsLate Out r.whole.lobby.free r.whole.lobby.waiting (record (parts r w) { at = Found }) (rw (s.0) refl) (omega arith))
  in_lobby lobby.Does.Counts l s o own = subst (FallsIn lobby.Does.Counts) (sym s.3) (falling.walks k w r lt lobby.Does.Counts Taken r.whole.lobby.free s.0 (record (parts r w) { at = Found }) (rw (s.1) refl) (omega arith))
  in_lobby lobby.Does.Raises l s o own = subst (FallsIn lobby.Does.Raises) (sym s.1) (falling.raises_calls k w r lt s.0)
  in_lobby (lobby.Does.Wakes v) l s o own = subst (FallsIn (lobby.Does.Wakes v)) (sym s.4) (falling.wakes k w r lt v s.0 s.2 s.3)
  in_lobby lobby.Does.WakesNone l s o own = subst (FallsIn lobby.Does.WakesNone) (sym s.2) (falling.walks k w r lt lobby.Does.WakesNone Out r.whole.lobby.free r.whole.lobby.waiting (record (parts r w) { at = Raised }) (rw (s.0) refl) (omega arith))

  falls : (d : Does) (z : Whole) → machine.Step k w d r.whole z → InOrder k w d r → machine.is_own d ≡ true → writes w (Makes d) r ≡ false → Kept k r.whole → Ordered k r.whole → Falls d z
  falls (InLobby d) z s o own quiet i j = subst (Falls (InLobby d)) (sym s.3) (in_lobby d s.0 s.2 o own)
  falls Registers z s o own quiet i j = absurd (not_both true refl quiet)
  falls Settles z s o own quiet i j = absurd (not_both true refl quiet)
  falls Stops z s o own quiet i j = absurd (not_both true refl quiet)
  falls Starts z s o own quiet i j = absurd (not_both false own refl)
  falls Decides z s o own quiet i j = subst (Falls Decides) (sym s.4) (falling.decides k w r lt s.0 s.1 o (up_to_turn (r.whole.bell.rest w) (sym (ap (λ x. fits x (r.whole.bell.rest w)) s.1) ∙ j.rest w)))
  falls CountsItself z s o own quiet i j = subst (Falls CountsItself) (sym (s.2)) (falling.counts_itself k w r lt s.0 s.1)
  falls ReadsRings z s o own quiet i j = subst (Falls ReadsRings) (sym (s.3 ∙ ap (λ (b : bell.Bell). record r.whole { bell = b }) s.2.1)) (falling.reads_rings k w r lt s.1 s.2.0)
  falls NotesPlace z s o own quiet i j = subst (Falls NotesPlace) (sym (s.4 ∙ ap (λ (b : bell.Bell). record (does_next r.whole w Rests) { bell = b; adds = put r.whole.adds w false }) s.3.2)) (falling.notes k w r lt s.3.0 s.1 s.3.1 s.2)
  falls FallsAsleep z s o own quiet i j = subst (Falls FallsAsleep) (sym (s.4 ∙ ap (λ (b : bell.Bell). record r.whole { bell = b }) s.3.3)) (falling.falls_asleep k w r lt s.3.0 s.1 s.3.1)
  falls StaysUp z s o own quiet i j = subst (Falls StaysUp) (sym (s.4 ∙ ap (λ (b : bell.Bell). record r.whole { bell = b }) s.3.2)) (falling.stays_up k w r lt s.3.0 s.1 s.3.1 (λ e. o (s.3.1 ∙ ap (λ (n : ℕ). bell.Rest.Lies n) (same_number s.3.0 (r.whole.bell.rings w) e))))
  falls GetsUp z s o own quiet i j = subst (Falls GetsUp) (sym (s.4)) (falling.gets_up k w r lt s.0 s.2 (no_ring_yet k r.whole w (i.sound w) (ap may_ring s.0)))
  falls HasRisen z s o own quiet i j = subst (Falls HasRisen) (sym s.2) (elim s.1 [
    | inl e ↦ falling.has_risen k w r lt Idle refl s.0 e
    | inr e ↦ falling.has_risen k w r lt (bell.Ring.Raised w) refl s.0 e
  ])
  falls CountsDown z s o own quiet i j = subst (Falls CountsDown) (sym (s.3)) (falling.counts_down k w r lt s.0 s.1)
  falls (TurnsTo Turning) z s o own quiet i j = absurd (not_both (r.whole.active w) s.3 quiet)
  falls (TurnsTo Working) z s o own quiet i j = absurd (not_both (r.whole.active w) s.3 quiet)
  falls (TurnsTo Loading) z s o own quiet i j = absurd (not_both (r.whole.active w) s.3 quiet)
  falls (TurnsTo Over) z s o own quiet i j = subst (Falls (TurnsTo Over)) (sym s.5) (falling.turns_over k w r lt s.0 s.1 s.2 o.0 quiet)
  falls RingsForNone z s o own quiet i j = subst (Falls RingsForNone) (sym (s.3)) (falling.rings_for_none k w r lt s.0 s.1)
  falls FindsNobody z s o own quiet i j = subst (Falls FindsNobody) (sym (s.4)) (falling.finds_nobody k w r lt s.0 s.1 s.2 (subst (IsPlace k) s.2 o))
  falls FindsOne z s o own quiet i j = subst (Falls FindsOne) (sym (s.5)) (falling.finds_one k w r lt s.0 s.1 s.2 s.3)
  falls FindsNone z s o own quiet i j = subst (Falls FindsNone) (sym (s.2)) (falling.finds_none k w r lt s.0 s.1)
  falls StopsLate z s o own quiet i j = subst (Falls StopsLate) (sym (s.3)) (falling.stops_late k w r lt s.0 s.1 o)
  falls SeesNobody z s o own quiet i j = subst (Falls SeesNobody) (sym (s.5)) (falling.sees_on k w r lt SeesNobody s.0 s.1 s.1 s.2 refl s.3 (subst (IsPlace k) s.3 o))
  falls SeesFed z s o own quiet i j = subst (Falls SeesFed) (sym (s.7)) (falling.sees_one k w r lt SeesFed s.0 s.1 s.1 s.2 refl s.3 s.4)
  falls SeesHungry z s o own quiet i j = subst (Falls SeesHungry) (sym (s.6)) (falling.sees_one k w r lt SeesHungry s.0 false true s.1 refl s.2 s.3)
  falls SeesAnother z s o own quiet i j = subst (Falls SeesAnother) (sym (s.5)) (falling.sees_on k w r lt SeesAnother s.0 true true s.1 refl s.2 (subst (IsPlace k) s.2 o))
  falls HasSeen z s o own quiet i j = subst (Falls HasSeen) (sym (s.3)) (falling.has_seen k w r lt s.0 s.1 s.2)
  falls (IsToRing v) z s o own quiet i j = subst (Falls (IsToRing v)) (sym (s.6 ∙ ap (λ (b : bell.Bell). record r.whole { bell = b }) s.5.1)) (falling.is_to_ring k w r lt v s.1 (j.due w v s.4) s.4 s.2 s.5.0)
  falls ClearsPlace z s o own quiet i j = subst (Falls ClearsPlace) (sym (s.5)) (falling.clears_place k w r lt s.0 s.1 s.2 s.3 s.4)
  falls CountsRings z s o own quiet i j = subst (Falls CountsRings) (sym (s.2 ∙ ap (λ (b : bell.Bell). record r.whole { bell = b }) s.1.2)) (falling.counts_rings k w r lt s.1.0 (r.whole.bell.rings s.1.0) s.1.1)
  falls RaisesRings z s o own quiet i j = subst (Falls RaisesRings) (sym (s.2 ∙ ap (λ (b : bell.Bell). record r.whole { bell = b }) s.1.3)) (falling.raises_rings k w r lt s.1.0 s.1.1 s.1.2 ((i.sound w).ring (ap is_idle s.1.2)) (λ e. sym (ap (is_own_ring w) s.1.2) ∙ j.own w e))
  falls WakesOther z s o own quiet i j = subst (Falls WakesOther) (sym (s.4 ∙ ap (λ (b : bell.Bell). record r.whole { bell = b }) s.3.4)) (falling.wakes_other k w r lt s.3.0 s.3.1 s.1 s.2 s.3.2 s.3.3)
  falls WakesNobody z s o own quiet i j = subst (Falls WakesNobody) (sym (s.4 ∙ ap (λ (b : bell.Bell). record r.whole { bell = b }) s.3.3)) (falling.wakes_nobody k w r lt s.3.0 s.1 s.2 s.3.1)
  falls HasRung z s o own quiet i j = subst (Falls HasRung) (sym (s.5)) (falling.has_rung k w r lt s.0 s.1)
  falls CallsNext z s o own quiet i j = subst (Falls CallsNext) (sym (s.2)) (falling.calls_next k w r lt s.1)

pub step_falls : (k w : ℕ) (a : Act) (r t : Crew) → w < k → Step k w a r t → is_own a ≡ true → writes w a r ≡ false → Kept k r.whole → Ordered k r.whole → weight k t < weight k r
step_falls k w (Makes d) r t lt s own quiet i j = subst (λ x. weight k x < weight k r) (sym s.3) (falls k w r lt d s.0 s.1 s.2 own quiet i j)
step_falls k w Releases r t lt s own quiet i j = absurd (not_both true refl quiet)
