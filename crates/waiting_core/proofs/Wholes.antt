-- Each step of the whole keeps what is kept, and so at no time of a run do all sleep.
use Rattle.std.proofs.Common.{◌≡◌, ◌==◌, ◌+◌, ◌<◌, ◌⊎◌, ◌||◌, true, false, ℕ, suc, zero, nat_lt, Bool, if◌then◌else◌, refl, sym, ◌∙◌, ap, subst, arith, inl, inr}
use Rattle.scan_story.specs.Counting.{count_below}
use Rattle.story_laws.proofs.Bools.{below, not_both, or_left, self_number}
use Rattle.story_laws.proofs.Counts.{count_mono, count_nothing}
use Rattle.waiting_core.specs.Put.{put}
use Rattle.waiting_core.specs.Lobby as lobby
use Rattle.waiting_core.specs.Bell as bell
use Rattle.waiting_core.specs.Count as count
use Rattle.waiting_core.specs.Lobby.Stage.{Holds}
use Rattle.waiting_core.specs.Bell.Ring.{Idle, Rings, Cleared, Counted, Raised}
use Rattle.waiting_core.specs.Whole.{Whole, Task, After, Does, Step, IsRun, IsAway, Sleeps, NeverDoAllSleep, beginning, wants, keeps_desk, goes_on, is_loading, does_next, made_due, owed, stays_active, tally}
use Rattle.waiting_core.specs.Whole.After.{Turning, Working, Loading, Over}
use Rattle.waiting_core.specs.Whole.Task.{Away, Turns, LiesDown, Rests, Rises, Works, Loads, Looks, Sees, RingsFor}
use Rattle.waiting_core.specs.Whole.Does.{InLobby, Registers, Decides, CountsItself, ReadsRings, NotesPlace, FallsAsleep, StaysUp, Starts, GetsUp, HasRisen, CountsDown, TurnsTo, RingsForNone, FindsNobody, FindsOne, FindsNone, Settles, Stops, StopsLate, SeesNobody, SeesFed, SeesHungry, SeesAnother, HasSeen, IsToRing, ClearsPlace, CountsRings, RaisesRings, WakesOther, WakesNobody, HasRung, CallsNext}
use Rattle.waiting_core.proofs.Bells as bells
use Rattle.waiting_core.proofs.Lobbies as lobbies
use Rattle.waiting_core.proofs.Lobbies.{nobody_sleeps_on, some_counted}
use Rattle.waiting_core.proofs.Tally as tallies
use Rattle.waiting_core.proofs.Sounds.{IsSound, goes_free, is_idle, may_ring, rings, rises, sound_step}
use Rattle.waiting_core.proofs.Sounds as sounds
use Rattle.waiting_core.proofs.Turnings.{IsDue, IsRoused, IsUp, Turned, clears, goes_on_up, is_still, is_up, raises, rests_as, same_tasks, turns_ring}
use Rattle.waiting_core.proofs.Holding.{Kept, above, decides, finds_nobody, finds_none, finds_one, has_seen, is_one, notes, registers, rings_for_none, sees, sees_another, sees_nobody, sees_one, stops_late, turns_to}
use Rattle.waiting_core.proofs.Puts.{put_keep}

-- Each part, at each step

-- whose task isn't to ring is at no ring
pub no_ring_yet : (k : ℕ) (r : Whole) (w : ℕ) → IsSound k r w → may_ring (r.task w) ≡ false → r.bell.ring w ≡ Idle
no_ring_yet k r w i e = by (r.bell.ring w) refl
  where
    busy : (g : bell.Ring) → r.bell.ring w ≡ g → is_idle g ≡ false → ⊥
    busy g at f = not_both (may_ring (r.task w)) (i.ring (ap is_idle at ∙ f)) e

    by : (g : bell.Ring) → r.bell.ring w ≡ g → g ≡ Idle
    by Idle at = refl
    by (Rings v) at = absurd (busy (Rings v) at refl)
    by (Cleared v) at = absurd (busy (Cleared v) at refl)
    by (Counted v m) at = absurd (busy (Counted v m) at refl)
    by (Raised v) at = absurd (busy (Raised v) at refl)

bell_with : (k w : ℕ) (d : Does) (r t : Whole) → ((v : ℕ) → IsSound k r v) → Step k w d r t → bell.Keeps r.bell → bell.Keeps t.bell
bell_with k w (InLobby d) r t z s i = subst (λ x. bell.Keeps x.bell) (sym s.3) i
bell_with k w Registers r t z s i = subst (λ x. bell.Keeps x.bell) (sym s.3) i
bell_with k w Decides r t z s i = subst (λ x. bell.Keeps x.bell) (sym s.4) i
bell_with k w CountsItself r t z s i = subst (λ x. bell.Keeps x.bell) (sym s.2) i
bell_with k w ReadsRings r t z s i = subst (λ x. bell.Keeps x.bell) (sym s.3) (bells.steps_keep w bell.Does.ReadsRings r.bell s.0 s.2 i)
bell_with k w NotesPlace r t z s i = subst (λ x. bell.Keeps x.bell) (sym s.4) (bells.steps_keep w bell.Does.LiesDown r.bell s.0 s.3 i)
bell_with k w FallsAsleep r t z s i = subst (λ x. bell.Keeps x.bell) (sym s.4) (bells.steps_keep w bell.Does.FallsAsleep r.bell s.0 s.3 i)
bell_with k w StaysUp r t z s i = subst (λ x. bell.Keeps x.bell) (sym s.4) (bells.steps_keep w bell.Does.StaysUp r.bell s.0 s.3 i)
bell_with k w Starts r t z s i = subst (λ x. bell.Keeps x.bell) (sym s.2) (bells.steps_keep w bell.Does.Wakes r.bell s.0 s.1 i)
bell_with k w GetsUp r t z s i = subst (λ x. bell.Keeps x.bell) (sym s.4) (bells.steps_keep w bell.Does.GetsUp r.bell (bell.is_up r.bell w) (s.2, no_ring_yet k r w (z w) (ap may_ring s.0), refl) i)
bell_with k w HasRisen r t z s i = subst (λ x. bell.Keeps x.bell) (sym s.2)
    (bells.steps_keep w bell.Does.HasRisen r.bell (record r.bell { ring = put r.bell.ring w Idle }) (λ n e. (let rests : Rises ≡ Rests = sym s.0 ∙ ((z w).asleep (ap sounds.is_asleep e)).0 in cc), s.1, refl) i)
bell_with k w CountsDown r t z s i = subst (λ x. bell.Keeps x.bell) (sym s.3) i
bell_with k w (TurnsTo a) r t z s i = subst (λ x. bell.Keeps x.bell) (sym s.5) i
bell_with k w RingsForNone r t z s i = subst (λ x. bell.Keeps x.bell) (sym s.3) i
bell_with k w FindsNobody r t z s i = subst (λ x. bell.Keeps x.bell) (sym s.4) i
bell_with k w FindsOne r t z s i = subst (λ x. bell.Keeps x.bell) (sym s.5) i
bell_with k w FindsNone r t z s i = subst (λ x. bell.Keeps x.bell) (sym s.2) i
bell_with k w Settles r t z s i = subst (λ x. bell.Keeps x.bell) (sym s.5) i
bell_with k w Stops r t z s i = subst (λ x. bell.Keeps x.bell) (sym s.3) i
bell_with k w StopsLate r t z s i = subst (λ x. bell.Keeps x.bell) (sym s.3) i
bell_with k w SeesNobody r t z s i = subst (λ x. bell.Keeps x.bell) (sym s.5) i
bell_with k w SeesFed r t z s i = subst (λ x. bell.Keeps x.bell) (sym s.7) i
bell_with k w SeesHungry r t z s i = subst (λ x. bell.Keeps x.bell) (sym s.6) i
bell_with k w SeesAnother r t z s i = subst (λ x. bell.Keeps x.bell) (sym s.5) i
bell_with k w HasSeen r t z s i = subst (λ x. bell.Keeps x.bell) (sym s.3) i
bell_with k w (IsToRing v) r t z s i = subst (λ x. bell.Keeps x.bell) (sym s.6) (bells.steps_keep w (bell.Does.IsToRing v) r.bell s.0 s.5 i)
bell_with k w ClearsPlace r t z s i = subst (λ x. bell.Keeps x.bell) (sym s.5)
    (bells.steps_keep w bell.Does.Clears r.bell (bell.cleared r.bell w s.0) (s.0, s.3, refl) i)
bell_with k w CountsRings r t z s i = subst (λ x. bell.Keeps x.bell) (sym s.2) (bells.steps_keep w bell.Does.Counts r.bell s.0 s.1 i)
bell_with k w RaisesRings r t z s i = subst (λ x. bell.Keeps x.bell) (sym s.2) (bells.steps_keep w bell.Does.Raises r.bell s.0 s.1 i)
bell_with k w WakesOther r t z s i = subst (λ x. bell.Keeps x.bell) (sym s.4) (bells.steps_keep w bell.Does.WakesOther r.bell s.0 s.3 i)
bell_with k w WakesNobody r t z s i = subst (λ x. bell.Keeps x.bell) (sym s.4) (bells.steps_keep w bell.Does.WakesNobody r.bell s.0 s.3 i)
bell_with k w HasRung r t z s i = subst (λ x. bell.Keeps x.bell) (sym s.5) i
bell_with k w CallsNext r t z s i = subst (λ x. bell.Keeps x.bell) (sym s.2) i

-- v's place is cleared, and w owes the count one where it was taken
cleared_count : (k w v : ℕ) (r : Whole) → w < k → (r.bell.lies v ≡ true → v < k) → r.owes w ≡ false → count.Keeps k (tally r) → (b : Bool) → r.bell.lies v ≡ b
    → count.Keeps k (record { asleep = r.asleep; lies = put r.bell.lies v false; adds = r.adds; owes = if b then put r.owes w true else r.owes })
cleared_count k w v r lt one owes i true e = tallies.steps_keep k w (count.Does.Clears v) (tally r) (record { asleep = r.asleep; lies = put r.bell.lies v false; adds = r.adds; owes = put r.owes w true }) lt (one e, e, owes, refl) i
cleared_count k w v r lt one owes i false e =
    let less = count_mono (put r.bell.lies v false) r.bell.lies k (λ j lj f. put_keep (λ b. b) true r.bell.lies v false j (λ g. absurd (not_both false g refl)) f) in
    omega (arith, less, i)

count_with : (k w : ℕ) (d : Does) (r t : Whole) → w < k → ((v : ℕ) → IsSound k r v) → Step k w d r t → count.Keeps k (tally r) → count.Keeps k (tally t)
count_with k w (InLobby d) r t lt z s i = subst (λ x. count.Keeps k (tally x)) (sym s.3) i
count_with k w Registers r t lt z s i = subst (λ x. count.Keeps k (tally x)) (sym s.3) i
count_with k w Decides r t lt z s i = subst (λ x. count.Keeps k (tally x)) (sym s.4) i
count_with k w CountsItself r t lt z s i = subst (λ x. count.Keeps k (tally x)) (sym s.2) (tallies.steps_keep k w count.Does.Raises (tally r) (tally (record r { asleep = r.asleep + 1; adds = put r.adds w true })) lt (s.1, refl) i)
count_with k w ReadsRings r t lt z s i = subst (λ x. count.Keeps k (tally x)) (sym (s.3 ∙ ap (λ (b : bell.Bell). record r { bell = b }) s.2.1)) i
count_with k w NotesPlace r t lt z s i = subst (λ x. count.Keeps k (tally x)) (sym (s.4 ∙ ap (λ (b : bell.Bell). record (does_next r w Rests) { bell = b; adds = put r.adds w false }) s.3.2))
    (tallies.steps_keep k w count.Does.Notes (tally r) (record { asleep = r.asleep; lies = put r.bell.lies w true; adds = put r.adds w false; owes = r.owes }) lt (s.2, refl) i)
count_with k w FallsAsleep r t lt z s i = subst (λ x. count.Keeps k (tally x)) (sym (s.4 ∙ ap (λ (b : bell.Bell). record r { bell = b }) s.3.3)) i
count_with k w StaysUp r t lt z s i = subst (λ x. count.Keeps k (tally x)) (sym (s.4 ∙ ap (λ (b : bell.Bell). record r { bell = b }) s.3.2)) i
count_with k w Starts r t lt z s i = subst (λ x. count.Keeps k (tally x)) (sym (s.2 ∙ ap (λ (b : bell.Bell). record r { bell = b }) s.1.2)) i
count_with k w GetsUp r t lt z s i = subst (λ x. count.Keeps k (tally x)) (sym s.4) (cleared_count k w w r lt (λ f. lt) s.3 i (r.bell.lies w) refl)
count_with k w HasRisen r t lt z s i = subst (λ x. count.Keeps k (tally x)) (sym s.2) i
count_with k w CountsDown r t lt z s i = subst (λ x. count.Keeps k (tally x)) (sym s.3) (tallies.steps_keep k w count.Does.Lowers (tally r) (tally (record r { asleep = s.0; owes = put r.owes w false })) lt (s.0, s.1, s.2, refl) i)
count_with k w (TurnsTo a) r t lt z s i = subst (λ x. count.Keeps k (tally x)) (sym s.5) i
count_with k w RingsForNone r t lt z s i = subst (λ x. count.Keeps k (tally x)) (sym s.3) i
count_with k w FindsNobody r t lt z s i = subst (λ x. count.Keeps k (tally x)) (sym s.4) i
count_with k w FindsOne r t lt z s i = subst (λ x. count.Keeps k (tally x)) (sym s.5) i
count_with k w FindsNone r t lt z s i = subst (λ x. count.Keeps k (tally x)) (sym s.2) i
count_with k w Settles r t lt z s i = subst (λ x. count.Keeps k (tally x)) (sym s.5) i
count_with k w Stops r t lt z s i = subst (λ x. count.Keeps k (tally x)) (sym s.3) i
count_with k w StopsLate r t lt z s i = subst (λ x. count.Keeps k (tally x)) (sym s.3) i
count_with k w SeesNobody r t lt z s i = subst (λ x. count.Keeps k (tally x)) (sym s.5) i
count_with k w SeesFed r t lt z s i = subst (λ x. count.Keeps k (tally x)) (sym s.7) i
count_with k w SeesHungry r t lt z s i = subst (λ x. count.Keeps k (tally x)) (sym s.6) i
count_with k w SeesAnother r t lt z s i = subst (λ x. count.Keeps k (tally x)) (sym s.5) i
count_with k w HasSeen r t lt z s i = subst (λ x. count.Keeps k (tally x)) (sym s.3) i
count_with k w (IsToRing v) r t lt z s i = subst (λ x. count.Keeps k (tally x)) (sym (s.6 ∙ ap (λ (b : bell.Bell). record r { bell = b }) s.5.1)) i
count_with k w ClearsPlace r t lt z s i = subst (λ x. count.Keeps k (tally x)) (sym s.5)
    (cleared_count k w s.0 r lt (λ f. is_one k s.0 r (z s.0) (λ g. (let bad : Away ≡ Rests = sym g ∙ (z s.0).place f in cc))) s.4 i (r.bell.lies s.0) refl)
count_with k w CountsRings r t lt z s i = subst (λ x. count.Keeps k (tally x)) (sym (s.2 ∙ ap (λ (b : bell.Bell). record r { bell = b }) s.1.2)) i
count_with k w RaisesRings r t lt z s i = subst (λ x. count.Keeps k (tally x)) (sym (s.2 ∙ ap (λ (b : bell.Bell). record r { bell = b }) s.1.3)) i
count_with k w WakesOther r t lt z s i = subst (λ x. count.Keeps k (tally x)) (sym (s.4 ∙ ap (λ (b : bell.Bell). record r { bell = b }) s.3.4)) i
count_with k w WakesNobody r t lt z s i = subst (λ x. count.Keeps k (tally x)) (sym (s.4 ∙ ap (λ (b : bell.Bell). record r { bell = b }) s.3.3)) i
count_with k w HasRung r t lt z s i = subst (λ x. count.Keeps k (tally x)) (sym s.5) i
count_with k w CallsNext r t lt z s i = subst (λ x. count.Keeps k (tally x)) (sym s.2) i

lobby_with : (k w : ℕ) (d : Does) (r t : Whole) → w < k → Step k w d r t → lobby.Keeps k r.lobby → lobby.Keeps k t.lobby
lobby_with k w (InLobby d) r t lt s i = subst (λ x. lobby.Keeps k x.lobby) (sym s.3) (lobbies.steps_keep k w d r.lobby s.0 lt s.2 i)
lobby_with k w Registers r t lt s i = subst (λ x. lobby.Keeps k x.lobby) (sym s.3) i
lobby_with k w Decides r t lt s i = subst (λ x. lobby.Keeps k x.lobby) (sym s.4) i
lobby_with k w CountsItself r t lt s i = subst (λ x. lobby.Keeps k x.lobby) (sym s.2) i
lobby_with k w ReadsRings r t lt s i = subst (λ x. lobby.Keeps k x.lobby) (sym s.3) i
lobby_with k w NotesPlace r t lt s i = subst (λ x. lobby.Keeps k x.lobby) (sym s.4) i
lobby_with k w FallsAsleep r t lt s i = subst (λ x. lobby.Keeps k x.lobby) (sym s.4) i
lobby_with k w StaysUp r t lt s i = subst (λ x. lobby.Keeps k x.lobby) (sym s.4) i
lobby_with k w Starts r t lt s i = subst (λ x. lobby.Keeps k x.lobby) (sym s.2) i
lobby_with k w GetsUp r t lt s i = subst (λ x. lobby.Keeps k x.lobby) (sym s.4) i
lobby_with k w HasRisen r t lt s i = subst (λ x. lobby.Keeps k x.lobby) (sym s.2) i
lobby_with k w CountsDown r t lt s i = subst (λ x. lobby.Keeps k x.lobby) (sym s.3) i
lobby_with k w (TurnsTo a) r t lt s i = subst (λ x. lobby.Keeps k x.lobby) (sym s.5) i
lobby_with k w RingsForNone r t lt s i = subst (λ x. lobby.Keeps k x.lobby) (sym s.3) i
lobby_with k w FindsNobody r t lt s i = subst (λ x. lobby.Keeps k x.lobby) (sym s.4) i
lobby_with k w FindsOne r t lt s i = subst (λ x. lobby.Keeps k x.lobby) (sym s.5) i
lobby_with k w FindsNone r t lt s i = subst (λ x. lobby.Keeps k x.lobby) (sym s.2) i
lobby_with k w Settles r t lt s i = subst (λ x. lobby.Keeps k x.lobby) (sym s.5) i
lobby_with k w Stops r t lt s i = subst (λ x. lobby.Keeps k x.lobby) (sym s.3) i
lobby_with k w StopsLate r t lt s i = subst (λ x. lobby.Keeps k x.lobby) (sym s.3) i
lobby_with k w SeesNobody r t lt s i = subst (λ x. lobby.Keeps k x.lobby) (sym s.5) i
lobby_with k w SeesFed r t lt s i = subst (λ x. lobby.Keeps k x.lobby) (sym s.7) i
lobby_with k w SeesHungry r t lt s i = subst (λ x. lobby.Keeps k x.lobby) (sym s.6) i
lobby_with k w SeesAnother r t lt s i = subst (λ x. lobby.Keeps k x.lobby) (sym s.5) i
lobby_with k w HasSeen r t lt s i = subst (λ x. lobby.Keeps k x.lobby) (sym s.3) i
lobby_with k w (IsToRing v) r t lt s i = subst (λ x. lobby.Keeps k x.lobby) (sym s.6) i
lobby_with k w ClearsPlace r t lt s i = subst (λ x. lobby.Keeps k x.lobby) (sym s.5) i
lobby_with k w CountsRings r t lt s i = subst (λ x. lobby.Keeps k x.lobby) (sym s.2) i
lobby_with k w RaisesRings r t lt s i = subst (λ x. lobby.Keeps k x.lobby) (sym s.2) i
lobby_with k w WakesOther r t lt s i = subst (λ x. lobby.Keeps k x.lobby) (sym s.4) i
lobby_with k w WakesNobody r t lt s i = subst (λ x. lobby.Keeps k x.lobby) (sym s.4) i
lobby_with k w HasRung r t lt s i = subst (λ x. lobby.Keeps k x.lobby) (sym s.5) i
lobby_with k w CallsNext r t lt s i = subst (λ x. lobby.Keeps k x.lobby) (sym s.2) i

rung_up : (b : Bool) (a : After) → is_up b (RingsFor a) ≡ true → is_up b (goes_on a) ≡ true
rung_up b Turning e = refl
rung_up b Working e = e
rung_up b Loading e = refl
rung_up b Over e = e

rung_loads : (a : After) → is_loading (RingsFor a) ≡ true → is_loading (goes_on a) ≡ true
rung_loads Turning e = e
rung_loads Working e = e
rung_loads Loading e = refl
rung_loads Over e = e

rung_awake : (a : After) → goes_on a ≡ Rests → ⊥
rung_awake Turning e = let bad : Turns ≡ Rests = e in cc
rung_awake Working e = let bad : Works ≡ Rests = e in cc
rung_awake Loading e = let bad : Loads ≡ Rests = e in cc
rung_awake Over e = let bad : Away ≡ Rests = e in cc

-- only the bell changed
bell_alone : (k : ℕ) (r : Whole) (b : bell.Bell) → Kept k r → ((v : ℕ) → IsRoused r v → IsRoused (record r { bell = b }) v) → Turned k (record r { bell = b })
bell_alone k r b i roused = same_tasks k r r.lobby b r.asleep r.adds r.owes r.due (λ v e f. roused v f) i.turned

keeps : (k w : ℕ) (r : Whole) (x : Task) → Kept k r → r.task w ≡ x → keeps_desk x ≡ true → r.lobby.at w ≡ Holds
keeps k w r x i e f = (i.sound w).desk (ap keeps_desk e ∙ f)

turned_with : (k w : ℕ) (d : Does) (r t : Whole) → w < k → Step k w d r t → Kept k r → Turned k t
turned_with k w (InLobby d) r t lt s i = subst (Turned k) (sym s.3) (same_tasks k r s.0 r.bell r.asleep r.adds r.owes r.due (λ v e f. f) i.turned)
turned_with k w Registers r t lt s i = subst (Turned k) (sym s.3) (registers k w r lt i s.1 s.0 s.2)
turned_with k w Decides r t lt s i = subst (Turned k) (sym s.4) (decides k w r lt i s.0 s.1 s.2 s.3)
turned_with k w CountsItself r t lt s i = subst (Turned k) (sym s.2) (same_tasks k r r.lobby r.bell (r.asleep + 1) (put r.adds w true) r.owes r.due (λ v e f. f) i.turned)
turned_with k w ReadsRings r t lt s i = subst (Turned k) (sym (s.3 ∙ ap (λ (b : bell.Bell). record r { bell = b }) s.2.1))
    (bell_alone k r (record r.bell { rest = put r.bell.rest w (bell.Rest.Reads (r.bell.rings w)) }) i (λ v. rests_as r w (bell.Rest.Reads (r.bell.rings w)) v (λ f. refl)))
turned_with k w NotesPlace r t lt s i = subst (Turned k) (sym (s.4 ∙ ap (λ (b : bell.Bell). record (does_next r w Rests) { bell = b; adds = put r.adds w false }) s.3.2))
    (notes k w r lt i (keeps k w r LiesDown i s.1 refl) s.3.0 s.1)
turned_with k w FallsAsleep r t lt s i = subst (Turned k) (sym (s.4 ∙ ap (λ (b : bell.Bell). record r { bell = b }) s.3.3))
    (bell_alone k r (record r.bell { rest = put r.bell.rest w (bell.Rest.Asleep s.3.0) }) i (λ v. rests_as r w (bell.Rest.Asleep s.3.0) v (λ f. sym (ap (is_still (r.bell.rings v)) s.3.1) ∙ f)))
turned_with k w StaysUp r t lt s i = subst (Turned k) (sym (s.4 ∙ ap (λ (b : bell.Bell). record r { bell = b }) s.3.2))
    (bell_alone k r (record r.bell { rest = put r.bell.rest w bell.Rest.Up }) i (λ v. rests_as r w bell.Rest.Up v (λ f. refl)))
turned_with k w Starts r t lt s i = subst (Turned k) (sym (s.2 ∙ ap (λ (b : bell.Bell). record r { bell = b }) s.1.2))
    (bell_alone k r (record r.bell { rest = put r.bell.rest w bell.Rest.Up }) i (λ v. rests_as r w bell.Rest.Up v (λ f. refl)))
turned_with k w GetsUp r t lt s i = subst (Turned k) (sym s.4)
    (goes_on_up k w r (bell.is_up r.bell w) (owed r w w) Rests Rises s.0 refl refl (λ f. cc) (λ f. refl) (λ f. refl) (λ f. absurd (not_both false f refl))
    (λ v. turns_ring r w Idle (bell.own_ring r.bell w) v (no_ring_yet k r w (i.sound w) (ap may_ring s.0)) (λ g. absurd g)) i.turned)
turned_with k w HasRisen r t lt s i = subst (Turned k) (sym s.2)
    (goes_on_up k w r (record r.bell { ring = put r.bell.ring w Idle }) r.owes Rises Turns s.0 refl refl (λ f. cc) (λ f. refl) (λ f. refl) (λ f. absurd (not_both false f refl))
    (λ v. elim s.1 [
      | inl e ↦ turns_ring r w Idle Idle v e (λ g. g)
      | inr e ↦ turns_ring r w (Raised w) Idle v e (λ g. g)
    ]) i.turned)
turned_with k w CountsDown r t lt s i = subst (Turned k) (sym s.3) (same_tasks k r r.lobby r.bell s.0 r.adds (put r.owes w false) r.due (λ v e f. f) i.turned)
turned_with k w (TurnsTo a) r t lt s i = subst (Turned k) (sym s.5) (turns_to k w r lt i s.1 a (stays_active a (r.active w)) s.0 s.2 s.4)
turned_with k w RingsForNone r t lt s i = subst (Turned k) (sym s.3) (rings_for_none k w r lt i (keeps k w r (Looks 0 s.0) i s.1 refl) s.0 s.1 s.2)
turned_with k w FindsNobody r t lt s i = subst (Turned k) (sym s.4) (finds_nobody k w r lt i (keeps k w r (Looks s.0 s.1) i s.2 refl) s.0 s.1 s.2 s.3)
turned_with k w FindsOne r t lt s i = subst (Turned k) (sym s.5) (finds_one k w r lt i (keeps k w r (Looks s.0 s.1) i s.2 refl) s.0 s.1 s.2 s.3 s.4)
turned_with k w FindsNone r t lt s i = subst (Turned k) (sym s.2) (finds_none k w r lt i (keeps k w r (Looks k s.0) i s.1 refl) s.0 s.1)
turned_with k w Settles r t lt s i = subst (Turned k) (sym s.5) (sees k w r lt i s.2 Turning s.0 s.1)
turned_with k w Stops r t lt s i = subst (Turned k) (sym s.3) (sees k w r lt i s.0 Over (put r.active w false) r.has_chunk)
turned_with k w StopsLate r t lt s i = subst (Turned k) (sym s.3) (stops_late k w r lt i s.0 s.1 s.2)
turned_with k w SeesNobody r t lt s i = subst (Turned k) (sym s.5) (sees_nobody k w r lt i (keeps k w r (Sees s.0 s.1 s.2) i s.3 refl) s.0 s.1 s.2 s.3 s.4)
turned_with k w SeesFed r t lt s i = subst (Turned k) (sym s.7) (sees_one k w r lt i (keeps k w r (Sees s.0 s.1 s.2) i s.3 refl) s.0 s.1 s.1 s.2 s.3 s.4 s.5 (λ f. f))
turned_with k w SeesHungry r t lt s i = subst (Turned k) (sym s.6) (sees_one k w r lt i (keeps k w r (Sees s.0 false s.1) i s.2 refl) s.0 false true s.1 s.2 s.3 s.4 (λ f. refl))
turned_with k w SeesAnother r t lt s i = subst (Turned k) (sym s.5) (sees_another k w r lt i (keeps k w r (Sees s.0 true s.1) i s.2 refl) s.0 s.1 s.2 s.4)
turned_with k w HasSeen r t lt s i = subst (Turned k) (sym s.3) (has_seen k w r lt i (keeps k w r (Sees k s.0 s.1) i s.2 refl) s.0 s.1 s.2)
turned_with k w (IsToRing u) r t lt s i = subst (Turned k) (sym (s.6 ∙ ap (λ (b : bell.Bell). record r { bell = b }) s.5.1))
    (bell_alone k r (record r.bell { ring = put r.bell.ring w (Rings u) }) i (λ v. turns_ring r w Idle (Rings u) v s.5.0 (λ g. g)))
turned_with k w ClearsPlace r t lt s i = subst (Turned k) (sym s.5)
    (same_tasks k r r.lobby (bell.cleared r.bell w s.0) r.asleep r.adds (owed r w s.0) (made_due r w s.0 false) (λ v e f. clears r w s.0 v s.3 f) i.turned)
turned_with k w CountsRings r t lt s i = subst (Turned k) (sym (s.2 ∙ ap (λ (b : bell.Bell). record r { bell = b }) s.1.2))
    (bell_alone k r (record r.bell { ring = put r.bell.ring w (Counted s.1.0 (r.bell.rings s.1.0)) }) i
    (λ v. turns_ring r w (Cleared s.1.0) (Counted s.1.0 (r.bell.rings s.1.0)) v s.1.1 (λ g. (g, omega (arith, ap r.bell.rings g)))))
turned_with k w RaisesRings r t lt s i = subst (Turned k) (sym (s.2 ∙ ap (λ (b : bell.Bell). record r { bell = b }) s.1.3))
    (bell_alone k r (bell.raised r.bell w s.1.0 s.1.1) i (λ v. raises r w s.1.0 s.1.1 v i.bell s.1.2))
turned_with k w WakesOther r t lt s i = subst (Turned k) (sym (s.4 ∙ ap (λ (b : bell.Bell). record r { bell = b }) s.3.4))
    (bell_alone k r (record r.bell { ring = put r.bell.ring w Idle; rest = put r.bell.rest s.3.0 bell.Rest.Up }) i
    (λ v f. rests_as (record r { bell = record r.bell { ring = put r.bell.ring w Idle } }) s.3.0 bell.Rest.Up v (λ g. refl) (turns_ring r w (Raised s.3.0) Idle v s.3.2 (λ g. g) f)))
turned_with k w WakesNobody r t lt s i = subst (Turned k) (sym (s.4 ∙ ap (λ (b : bell.Bell). record r { bell = b }) s.3.3))
    (bell_alone k r (record r.bell { ring = put r.bell.ring w Idle }) i (λ v. turns_ring r w (Raised s.3.0) Idle v s.3.1 (λ g. g)))
turned_with k w HasRung r t lt s i = subst (Turned k) (sym s.5)
    (goes_on_up k w r r.bell r.owes (RingsFor s.0) (goes_on s.0) s.1 refl (goes_free s.0) (rung_awake s.0) (rung_up (r.active w) s.0) (λ f. absurd (let bad : RingsFor s.0 ≡ Rests = f in cc)) (rung_loads s.0) (λ v f. f) i.turned)
turned_with k w CallsNext r t lt s i = subst (Turned k) (sym s.2)
    (goes_on_up k w r r.bell r.owes Works Turns s.1 refl refl (λ f. cc) (λ f. refl) (λ f. refl) (λ f. absurd (not_both false f refl)) (λ v f. f) i.turned)

-- Each time

pub step_keeps : (k w : ℕ) (d : Does) (r t : Whole) → w < k → Step k w d r t → Kept k r → Kept k t
step_keeps k w d r t lt s i = record {
  lobby = lobby_with k w d r t lt s i.lobby;
  bell = bell_with k w d r t i.sound s i.bell;
  count = count_with k w d r t lt i.sound s i.count;
  sound = sound_step k w d r t lt s i.sound;
  turned = turned_with k w d r t lt s i;
}

begins : (k : ℕ) → Kept k beginning
begins k =
    let none : count_below (λ v. false) k ≡ 0 = count_nothing k in
    record {
      lobby = record {
        old = λ v. tt;
        desk = none;
        fresh = omega (arith, none);
        all = omega (arith, none);
        about = λ f n. absurd (omega (arith, none, n));
        asleep = λ f n. absurd (omega (arith, none, n));
      };
      bell = λ v. tt;
      count = omega (arith, none);
      sound = λ v. record {
        one = λ le. refl;
        desk = λ e. absurd (not_both false e refl);
        lobby = λ e. absurd (not_both false e refl);
        asleep = λ e. absurd (not_both false e refl);
        place = λ e. absurd (not_both false e refl);
        due = λ u e. absurd (not_both false e refl);
        ring = λ e. absurd (not_both true refl e);
        query = λ e. absurd (not_both false e refl);
      };
      turned = record {
        called = λ v e f. absurd (let bad : Away ≡ Rests = e in cc);
        up = λ v lv e. absurd (let bad : Away ≡ Rests = e in cc);
        decided = λ v e. absurd (let bad : Away ≡ LiesDown = e in cc);
        looked = λ v j a e. absurd (let bad : Away ≡ Looks j a = e in cc);
        seen = λ v j b a e. absurd (let bad : Away ≡ Sees j b a = e in cc);
        found = λ v j a e. absurd (let bad : Away ≡ Sees j true a = e in cc);
      };
    }

pub kept_at : (k : ℕ) (at : ℕ → Whole) → IsRun k at → (n : ℕ) → Kept k (at n)
kept_at k at run zero = subst (Kept k) (sym run.begins) (begins k)
kept_at k at run (suc n) = let next : n + 1 ≡ suc n = omega arith in subst (λ m. Kept k (at m)) next (by (kept_at k at run n) (run.steps n))
  where
    by : Kept k (at n) → (at (n + 1) ≡ at n) ⊎ ((w : ℕ) × (d : Does) × (w < k) × Step k w d (at n) (at (n + 1))) → Kept k (at (n + 1))
    by i (inl e) = subst (Kept k) (sym e) i
    by i (inr s) = step_keeps k s.0 s.1 (at n) (at (n + 1)) s.2 s.3 i

-- Where all sleep

wants_quiet : (x : Task) → wants x ≡ true → may_ring x ≡ false
wants_quiet Away e = refl
wants_quiet Turns e = refl
wants_quiet LiesDown e = refl
wants_quiet Rests e = refl
wants_quiet Rises e = absurd (not_both false e refl)
wants_quiet Works e = refl
wants_quiet Loads e = refl
wants_quiet (Looks j a) e = absurd (not_both false e refl)
wants_quiet (Sees j b a) e = absurd (not_both false e refl)
wants_quiet (RingsFor a) e = absurd (not_both false e refl)

module _ (k : ℕ) (s : Whole) (i : Kept k s) (each : (v : ℕ) → v < k → Sleeps s v ⊎ IsAway s v) where
  calm_one : (w : ℕ) → Sleeps s w ⊎ IsAway s w → may_ring (s.task w) ≡ false
  calm_one w (inl (inl x)) = wants_quiet (s.task w) ((i.sound w).lobby (ap sounds.in_lobby x.1))
  calm_one w (inl (inr x)) = ap may_ring ((i.sound w).asleep (ap sounds.is_asleep x.1)).0
  calm_one w (inr x) = ap may_ring x.0

  calm : (w : ℕ) → may_ring (s.task w) ≡ false
  calm w = pick (nat_lt w k) refl
    where
      pick : (b : Bool) → nat_lt w k ≡ b → may_ring (s.task w) ≡ false
      pick true e = calm_one w (each w (below w k e))
      pick false e = ap may_ring ((i.sound w).one (above w k e))

  no_ring : (w : ℕ) (g : bell.Ring) → s.bell.ring w ≡ g → is_idle g ≡ false → ⊥
  no_ring w g e f = not_both (may_ring (s.task w)) ((i.sound w).ring (ap is_idle e ∙ f)) (calm w)

  no_raise : (w v n : ℕ) (g : bell.Ring) → s.bell.ring w ≡ g → bell.WillRaise v n g → ⊥
  no_raise w v n Idle e f = f
  no_raise w v n (Rings u) e f = f
  no_raise w v n (Cleared u) e f = no_ring w (Cleared u) e refl
  no_raise w v n (Counted u m) e f = no_ring w (Counted u m) e refl
  no_raise w v n (Raised u) e f = f

  not_due : (v : ℕ) → IsDue s v → ⊥
  not_due v (w, inl e) = not_both (may_ring (s.task w)) (or_left (rings (s.task w)) (rises (s.task w)) ((i.sound w).due v e)) (calm w)
  not_due v (w, inr e) = no_raise w v (s.bell.rings v) (s.bell.ring w) refl e

  -- nobody is awake in the lobby
  still_there : (w : ℕ) → Sleeps s w ⊎ IsAway s w → (lobby.is_holder (s.lobby.at w) || lobby.is_on_its_way (s.lobby.at w)) ≡ false
  still_there w (inl (inl x)) = ap (λ (p : lobby.Stage). lobby.is_holder p || lobby.is_on_its_way p) x.1
  still_there w (inl (inr x)) = ap (λ (p : lobby.Stage). lobby.is_holder p || lobby.is_on_its_way p) ((i.sound w).asleep (ap sounds.is_asleep x.1)).1
  still_there w (inr x) = ap (λ (p : lobby.Stage). lobby.is_holder p || lobby.is_on_its_way p) x.1

  no_lobby : (v n : ℕ) → v < k → s.lobby.at v ≡ lobby.Stage.Asleep n → ⊥
  no_lobby v n lv e =
      let some = some_counted (λ w. lobby.is_asleep (s.lobby.at w)) k v lv (ap lobby.is_asleep e) in
      let w = nobody_sleeps_on k s.lobby i.lobby some in
      not_both (lobby.is_holder (s.lobby.at w.0) || lobby.is_on_its_way (s.lobby.at w.0)) w.2 (still_there w.0 (each w.0 w.1))

  -- whoever sleeps at the bell isn't roused
  not_roused : (v n : ℕ) → s.bell.rest v ≡ bell.Rest.Asleep n → IsRoused s v → ⊥
  not_roused v n e (inr due) = not_due v due
  not_roused v n e (inl f) = by (subst (bell.IsKept s.bell v) e (i.bell v))
    where
      by : bell.IsKept s.bell v (bell.Rest.Asleep n) → ⊥
      by (inl g) = not_both (n == s.bell.rings v) (ap (λ m. n == m) (sym g.0) ∙ self_number n) (sym (ap (is_still (s.bell.rings v)) e) ∙ f)
      by (inr g) = let x = g.1 in no_ring x.0 (Raised v) x.1 refl

  not_up : (v : ℕ) → v < k → IsUp s v → ⊥
  not_up v lv up = by (each v lv) up
    where
      by : Sleeps s v ⊎ IsAway s v → IsUp s v → ⊥
      by (inl (inl x)) u = no_lobby v x.0 lv x.1
      by (inl (inr x)) (inl e) = not_both false (sym (ap (is_up (s.active v)) ((i.sound v).asleep (ap sounds.is_asleep x.1)).0) ∙ e) refl
      by (inl (inr x)) (inr e) = not_roused v x.0 x.1 e.1
      by (inr x) (inl e) = not_both false (sym (ap (is_up (s.active v)) x.0) ∙ e) refl
      by (inr x) (inr e) = let bad : Away ≡ Rests = sym x.0 ∙ e.0 in cc

  nobody_sleeps : (v : ℕ) → v < k → Sleeps s v → ⊥
  nobody_sleeps v lv (inl x) = no_lobby v x.0 lv x.1
  nobody_sleeps v lv (inr x) = let u = i.turned.up v lv ((i.sound v).asleep (ap sounds.is_asleep x.1)).0 in not_up u.worker u.is_one u.up

pub never_do_all_sleep : NeverDoAllSleep
never_do_all_sleep k at run n each v lv = by (each v lv)
  where
    by : Sleeps (at n) v ⊎ IsAway (at n) v → IsAway (at n) v
    by (inl x) = absurd (nobody_sleeps k (at n) (kept_at k at run n) each v lv x)
    by (inr x) = x
