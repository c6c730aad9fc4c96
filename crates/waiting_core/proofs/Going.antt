-- Whoever neither sleeps nor is away may take a step.
use Rattle.std.proofs.Common.{◌≡◌, ◌==◌, ◌+◌, ◌<◌, ◌≤◌, ◌⊎◌, not, true, false, ℕ, suc, zero, Bool, if◌then◌else◌, refl, sym, ◌∙◌, ap, subst, arith, inl, inr}
use Rattle.std.proofs.lemmas.Bool.Decides.{nat_tests}
use Rattle.scan_story.specs.Counting.{any_below}
use Rattle.story_laws.proofs.Bools.{if_not, not_both, same_number, self_number}
use Rattle.story_laws.proofs.Counts.{any_find, any_none_at, count_off}
use Rattle.waiting_core.specs.Put.{put}
use Rattle.waiting_core.specs.Lobby as lobby
use Rattle.waiting_core.specs.Bell as bell
use Rattle.waiting_core.specs.Lobby.Stage.{Out, Holds, Comes, Read, Entered, Looked, Asleep, Gave, Found, Taken, Raised}
use Rattle.waiting_core.specs.Bell.Ring.{Idle, Rings, Cleared, Counted}
use Rattle.waiting_core.specs.Whole.{Whole, Task, After, Does, GoesOn, IsAway, IsRun, NeverStandsStill, Sleeps, Step, does_next, goes_on, is_allowed, is_hungry, is_own, keeps_desk, made_due, owed, stays_active, wants}
use Rattle.waiting_core.specs.Whole.After.{Turning, Working, Loading, Over}
use Rattle.waiting_core.specs.Whole.Task.{Away, Turns, LiesDown, Rests, Rises, Works, Loads, Looks, Sees, RingsFor}
use Rattle.waiting_core.specs.Whole.Does.{InLobby, Registers, Decides, CountsItself, ReadsRings, NotesPlace, FallsAsleep, StaysUp, Starts, GetsUp, HasRisen, CountsDown, TurnsTo, RingsForNone, FindsNobody, FindsOne, FindsNone, Settles, Stops, StopsLate, SeesNobody, SeesFed, SeesHungry, SeesAnother, HasSeen, IsToRing, ClearsPlace, CountsRings, RaisesRings, WakesOther, WakesNobody, HasRung, CallsNext}
use Rattle.waiting_core.proofs.Lobbies.{some_counted}
use Rattle.waiting_core.proofs.Sounds.{rises}
use Rattle.waiting_core.proofs.Holding.{Kept, is_one}
use Rattle.waiting_core.proofs.Wholes.{kept_at, never_do_all_sleep}
use Rattle.waiting_core.proofs.Puts.{at_put, off_put, put_keep}

-- How a worker rests, by its task

abbrev pub fits : Task → bell.Rest → Bool
fits x bell.Rest.Up = true
fits LiesDown (bell.Rest.Reads n) = true
fits Rests (bell.Rest.Lies n) = true
fits Rests (bell.Rest.Asleep n) = true
fits _ _ = false

abbrev plain : Task → Bool
plain LiesDown = false
plain Rests = false
plain _ = true

-- a ring for v itself
abbrev pub is_own_ring : ℕ → bell.Ring → Bool
is_own_ring v Idle = true
is_own_ring v (Rings u) = false
is_own_ring v (Cleared u) = u == v
is_own_ring v (Counted u m) = u == v
is_own_ring v (bell.Ring.Raised u) = u == v

pub record Ordered (k : ℕ) (s : Whole) : Type 0 where
  pub rest : (v : ℕ) → fits (s.task v) (s.bell.rest v) ≡ true
  pub due : (v u : ℕ) → s.due v u ≡ true → u < k
  pub own : (v : ℕ) → rises (s.task v) ≡ true → is_own_ring v (s.bell.ring v) ≡ true

only_up : (x z : Task) (y : bell.Rest) → plain x ≡ true → fits x y ≡ true → fits z y ≡ true
only_up x z bell.Rest.Up p e = refl
only_up Away z (bell.Rest.Reads n) p e = absurd (not_both false e refl)
only_up Turns z (bell.Rest.Reads n) p e = absurd (not_both false e refl)
only_up LiesDown z (bell.Rest.Reads n) p e = absurd (not_both false p refl)
only_up Rests z (bell.Rest.Reads n) p e = absurd (not_both false p refl)
only_up Rises z (bell.Rest.Reads n) p e = absurd (not_both false e refl)
only_up Works z (bell.Rest.Reads n) p e = absurd (not_both false e refl)
only_up Loads z (bell.Rest.Reads n) p e = absurd (not_both false e refl)
only_up (Looks i a) z (bell.Rest.Reads n) p e = absurd (not_both false e refl)
only_up (Sees i b a) z (bell.Rest.Reads n) p e = absurd (not_both false e refl)
only_up (RingsFor a) z (bell.Rest.Reads n) p e = absurd (not_both false e refl)
only_up Away z (bell.Rest.Lies n) p e = absurd (not_both false e refl)
only_up Turns z (bell.Rest.Lies n) p e = absurd (not_both false e refl)
only_up LiesDown z (bell.Rest.Lies n) p e = absurd (not_both false p refl)
only_up Rests z (bell.Rest.Lies n) p e = absurd (not_both false p refl)
only_up Rises z (bell.Rest.Lies n) p e = absurd (not_both false e refl)
only_up Works z (bell.Rest.Lies n) p e = absurd (not_both false e refl)
only_up Loads z (bell.Rest.Lies n) p e = absurd (not_both false e refl)
only_up (Looks i a) z (bell.Rest.Lies n) p e = absurd (not_both false e refl)
only_up (Sees i b a) z (bell.Rest.Lies n) p e = absurd (not_both false e refl)
only_up (RingsFor a) z (bell.Rest.Lies n) p e = absurd (not_both false e refl)
only_up Away z (bell.Rest.Asleep n) p e = absurd (not_both false e refl)
only_up Turns z (bell.Rest.Asleep n) p e = absurd (not_both false e refl)
only_up LiesDown z (bell.Rest.Asleep n) p e = absurd (not_both false p refl)
only_up Rests z (bell.Rest.Asleep n) p e = absurd (not_both false p refl)
only_up Rises z (bell.Rest.Asleep n) p e = absurd (not_both false e refl)
only_up Works z (bell.Rest.Asleep n) p e = absurd (not_both false e refl)
only_up Loads z (bell.Rest.Asleep n) p e = absurd (not_both false e refl)
only_up (Looks i a) z (bell.Rest.Asleep n) p e = absurd (not_both false e refl)
only_up (Sees i b a) z (bell.Rest.Asleep n) p e = absurd (not_both false e refl)
only_up (RingsFor a) z (bell.Rest.Asleep n) p e = absurd (not_both false e refl)

goes_up : (a : After) → rises (goes_on a) ≡ false
goes_up Turning = refl
goes_up Working = refl
goes_up Loading = refl
goes_up Over = refl

module _ (k w : ℕ) (r : Whole) (i : Ordered k r) where
  -- w's task is x now
  still_own : (x : Task) → rises x ≡ false → (v : ℕ) → rises (put r.task w x v) ≡ true → is_own_ring v (r.bell.ring v) ≡ true
  still_own x q v e = i.own v (put_keep rises true r.task w x v (λ f. absurd (not_both (rises x) f q)) e)

  -- w is at the ring g
  rung : (g : bell.Ring) → (rises (r.task w) ≡ true → is_own_ring w g ≡ true) → (v : ℕ) → rises (r.task v) ≡ true → is_own_ring v (put r.bell.ring w g v) ≡ true
  rung g own v e = by (v == w) refl
    where
      by : (b : Bool) → (v == w) ≡ b → is_own_ring v (put r.bell.ring w g v) ≡ true
      by true at =
          let same = same_number v w at in
          subst (λ n. is_own_ring n (put r.bell.ring w g n) ≡ true) (sym same) (ap (is_own_ring w) (at_put r.bell.ring w g) ∙ own (ap (λ n. rises (r.task n)) (sym same) ∙ e))
      by false at = ap (is_own_ring v) (off_put r.bell.ring w g v at) ∙ i.own v e

  -- w goes on to x
  goes : (x : Task) (d : ℕ → ℕ → Bool) (a c : ℕ → Bool) → plain (r.task w) ≡ true → rises x ≡ false → ((v u : ℕ) → d v u ≡ true → u < k) → Ordered k (record (does_next r w x) { due = d; active = a; has_chunk = c })
  goes x d a c p q due = record { rest = λ v. rest v (v == w) refl; due = due; own = still_own x q }
    where
      rest : (v : ℕ) (b : Bool) → (v == w) ≡ b → fits (put r.task w x v) (r.bell.rest v) ≡ true
      rest v true at =
          let same = same_number v w at in
          subst (λ n. fits (put r.task w x n) (r.bell.rest n) ≡ true) (sym same) (ap (λ z. fits z (r.bell.rest w)) (at_put r.task w x) ∙ only_up (r.task w) x (r.bell.rest w) p (i.rest w))
      rest v false at = ap (λ z. fits z (r.bell.rest v)) (off_put r.task w x v at) ∙ i.rest v

  -- w's task is x and it rests as y
  rests : (x : Task) (y : bell.Rest) (l : ℕ → Bool) (adds owes : ℕ → Bool) → fits x y ≡ true → rises x ≡ false
      → Ordered k (record (does_next r w x) { bell = record r.bell { lies = l; rest = put r.bell.rest w y }; adds = adds; owes = owes })
  rests x y l adds owes e q = record { rest = λ v. rest v (v == w) refl; due = i.due; own = still_own x q }
    where
      rest : (v : ℕ) (b : Bool) → (v == w) ≡ b → fits (put r.task w x v) (put r.bell.rest w y v) ≡ true
      rest v true at =
          let same = same_number v w at in
          subst (λ n. fits (put r.task w x n) (put r.bell.rest w y n) ≡ true) (sym same) (ap (λ z. fits z (put r.bell.rest w y w)) (at_put r.task w x) ∙ (ap (fits x) (at_put r.bell.rest w y) ∙ e))
      rest v false at = ap (λ z. fits z (put r.bell.rest w y v)) (off_put r.task w x v at) ∙ (ap (fits (r.task v)) (off_put r.bell.rest w y v at) ∙ i.rest v)

  -- w rests as y, whatever its task
  lies : (y : bell.Rest) (g : ℕ → bell.Ring) → fits (r.task w) y ≡ true → ((v : ℕ) → rises (r.task v) ≡ true → is_own_ring v (g v) ≡ true)
      → Ordered k (record r { bell = record r.bell { rest = put r.bell.rest w y; ring = g } })
  lies y g e own = record { rest = λ v. rest v (v == w) refl; due = i.due; own = own }
    where
      rest : (v : ℕ) (b : Bool) → (v == w) ≡ b → fits (r.task v) (put r.bell.rest w y v) ≡ true
      rest v true at =
          let same = same_number v w at in
          subst (λ n. fits (r.task n) (put r.bell.rest w y n) ≡ true) (sym same) (ap (fits (r.task w)) (at_put r.bell.rest w y) ∙ e)
      rest v false at = ap (fits (r.task v)) (off_put r.bell.rest w y v at) ∙ i.rest v

  more_due : (j : ℕ) → j < k → (v u : ℕ) → made_due r w j true v u ≡ true → u < k
  more_due j lj v u e = by (v == w) refl
    where
      inner : (b : Bool) → (u == j) ≡ b → (if b then true else r.due w u) ≡ true → u < k
      inner true at f = omega (arith, lj, same_number u j at)
      inner false at f = i.due w u f

      by : (b : Bool) → (v == w) ≡ b → u < k
      by true at = inner (u == j) refl (sym (ap (λ (d : ℕ → Bool). d u) (ap (put r.due w (put (r.due w) j true)) (same_number v w at) ∙ at_put r.due w (put (r.due w) j true))) ∙ e)
      by false at = i.due v u (sym (ap (λ (d : ℕ → Bool). d u) (off_put r.due w (put (r.due w) j true) v at)) ∙ e)

  less_due : (j : ℕ) (v u : ℕ) → made_due r w j false v u ≡ true → u < k
  less_due j v u e = i.due v u (put_keep (λ (d : ℕ → Bool). d u) true r.due w (put (r.due w) j false) v (put_keep (λ b. b) true (r.due w) j false u (λ f. absurd (not_both false f refl))) e)

pub ordered : (k w : ℕ) (d : Does) (r t : Whole) → Step k w d r t → Ordered k r → Ordered k t
ordered k w (InLobby d) r t s i = subst (Ordered k) (sym (s.3)) (record { rest = i.rest; due = i.due; own = i.own })
ordered k w Registers r t s i = subst (Ordered k) (sym (s.3)) (goes k w r i Works r.due (put r.active w true) (put r.has_chunk w s.0) (ap plain s.2) refl i.due)
ordered k w Decides r t s i = subst (Ordered k) (sym (s.4)) (goes k w r i LiesDown r.due r.active r.has_chunk (ap plain s.1) refl i.due)
ordered k w CountsItself r t s i = subst (Ordered k) (sym (s.2)) (record { rest = i.rest; due = i.due; own = i.own })
ordered k w ReadsRings r t s i = subst (Ordered k) (sym (s.3 ∙ ap (λ (b : bell.Bell). record r { bell = b }) s.2.1)) (lies k w r i (bell.Rest.Reads (r.bell.rings w)) r.bell.ring (ap (λ z. fits z (bell.Rest.Reads (r.bell.rings w))) s.1) i.own)
ordered k w NotesPlace r t s i = subst (Ordered k) (sym (s.4 ∙ ap (λ (b : bell.Bell). record (does_next r w Rests) { bell = b; adds = put r.adds w false }) s.3.2)) (rests k w r i Rests (bell.Rest.Lies s.3.0) (put r.bell.lies w true) (put r.adds w false) r.owes refl refl)
ordered k w FallsAsleep r t s i = subst (Ordered k) (sym (s.4 ∙ ap (λ (b : bell.Bell). record r { bell = b }) s.3.3)) (lies k w r i (bell.Rest.Asleep s.3.0) r.bell.ring (ap (λ z. fits z (bell.Rest.Asleep s.3.0)) s.1) i.own)
ordered k w StaysUp r t s i = subst (Ordered k) (sym (s.4 ∙ ap (λ (b : bell.Bell). record r { bell = b }) s.3.2)) (lies k w r i bell.Rest.Up r.bell.ring refl i.own)
ordered k w Starts r t s i = subst (Ordered k) (sym (s.2 ∙ ap (λ (b : bell.Bell). record r { bell = b }) s.1.2)) (lies k w r i bell.Rest.Up r.bell.ring refl i.own)
ordered k w GetsUp r t s i = subst (Ordered k) (sym s.4) (record { rest = λ v. rest v (v == w) refl; due = i.due; own = λ v. own v (v == w) refl })
  where
    rest : (v : ℕ) (b : Bool) → (v == w) ≡ b → fits (put r.task w Rises v) (r.bell.rest v) ≡ true
    rest v true at = ap (fits (put r.task w Rises v)) (ap r.bell.rest (same_number v w at) ∙ s.2)
    rest v false at = ap (λ z. fits z (r.bell.rest v)) (off_put r.task w Rises v at) ∙ i.rest v

    itself : (b : Bool) → is_own_ring w (if b then Cleared w else Idle) ≡ true
    itself true = self_number w
    itself false = refl

    own : (v : ℕ) (b : Bool) → (v == w) ≡ b → rises (put r.task w Rises v) ≡ true → is_own_ring v (put r.bell.ring w (bell.own_ring r.bell w) v) ≡ true
    own v true at e =
        let same = same_number v w at in
        subst (λ n. is_own_ring n (put r.bell.ring w (bell.own_ring r.bell w) n) ≡ true) (sym same) (ap (is_own_ring w) (at_put r.bell.ring w (bell.own_ring r.bell w)) ∙ itself (r.bell.lies w))
    own v false at e = ap (is_own_ring v) (off_put r.bell.ring w (bell.own_ring r.bell w) v at) ∙ i.own v (sym (ap rises (off_put r.task w Rises v at)) ∙ e)
ordered k w HasRisen r t s i = subst (Ordered k) (sym s.2) (
    let g : Ordered k (does_next r w Turns) = goes k w r i Turns r.due r.active r.has_chunk (ap plain s.0) refl i.due in
    record { rest = g.rest; due = g.due; own = rung k w (does_next r w Turns) g Idle (λ e. refl) })
ordered k w CountsDown r t s i = subst (Ordered k) (sym (s.3)) (record { rest = i.rest; due = i.due; own = i.own })
ordered k w (TurnsTo a) r t s i = subst (Ordered k) (sym (s.5)) (goes k w r i (Looks 0 a) r.due (put r.active w (stays_active a (r.active w))) s.0 (ap plain s.2) refl i.due)
ordered k w RingsForNone r t s i = subst (Ordered k) (sym (s.3)) (goes k w r i (RingsFor s.0) r.due r.active r.has_chunk (ap plain s.1) refl i.due)
ordered k w FindsNobody r t s i = subst (Ordered k) (sym (s.4)) (goes k w r i (Looks (s.0 + 1) s.1) r.due r.active r.has_chunk (ap plain s.2) refl i.due)
ordered k w FindsOne r t s i = subst (Ordered k) (sym (s.5)) (goes k w r i (RingsFor s.1) (made_due r w s.0 true) r.active r.has_chunk (ap plain s.2) refl (more_due k w r i s.0 s.3))
ordered k w FindsNone r t s i = subst (Ordered k) (sym (s.2)) (goes k w r i (RingsFor s.0) r.due r.active r.has_chunk (ap plain s.1) refl i.due)
ordered k w Settles r t s i = subst (Ordered k) (sym (s.5)) (goes k w r i (Sees 0 false Turning) r.due s.0 s.1 (ap plain s.3) refl i.due)
ordered k w Stops r t s i = subst (Ordered k) (sym (s.3)) (goes k w r i (Sees 0 false Over) r.due (put r.active w false) r.has_chunk (ap plain s.1) refl i.due)
ordered k w StopsLate r t s i = subst (Ordered k) (sym (s.3)) (goes k w r i Away r.due r.active r.has_chunk (ap plain s.1) refl i.due)
ordered k w SeesNobody r t s i = subst (Ordered k) (sym (s.5)) (goes k w r i (Sees (s.0 + 1) s.1 s.2) r.due r.active r.has_chunk (ap plain s.3) refl i.due)
ordered k w SeesFed r t s i = subst (Ordered k) (sym (s.7)) (goes k w r i (Sees (s.0 + 1) s.1 s.2) (made_due r w s.0 true) r.active r.has_chunk (ap plain s.3) refl (more_due k w r i s.0 s.4))
ordered k w SeesHungry r t s i = subst (Ordered k) (sym (s.6)) (goes k w r i (Sees (s.0 + 1) true s.1) (made_due r w s.0 true) r.active r.has_chunk (ap plain s.2) refl (more_due k w r i s.0 s.3))
ordered k w SeesAnother r t s i = subst (Ordered k) (sym (s.5)) (goes k w r i (Sees (s.0 + 1) true s.1) r.due r.active r.has_chunk (ap plain s.2) refl i.due)
ordered k w HasSeen r t s i = subst (Ordered k) (sym (s.3)) (goes k w r i (RingsFor s.1) r.due r.active r.has_chunk (ap plain s.2) refl i.due)
ordered k w (IsToRing u) r t s i = subst (Ordered k) (sym (s.6 ∙ ap (λ (b : bell.Bell). record r { bell = b }) s.5.1)) (record { rest = i.rest; due = i.due; own = rung k w r i (Rings u) (λ e. absurd (not_both false (sym (ap rises s.2) ∙ e) refl)) })
ordered k w ClearsPlace r t s i = subst (Ordered k) (sym (s.5)) (record { rest = i.rest; due = less_due k w r i s.0; own = rung k w r i (Cleared s.0) (λ e. absurd (not_both false (sym (ap rises s.2) ∙ e) refl)) })
ordered k w CountsRings r t s i = subst (Ordered k) (sym (s.2 ∙ ap (λ (b : bell.Bell). record r { bell = b }) s.1.2))
    (record { rest = i.rest; due = i.due; own = rung k w r i (Counted s.1.0 (r.bell.rings s.1.0)) (λ e. sym (ap (is_own_ring w) s.1.1) ∙ i.own w e) })
ordered k w RaisesRings r t s i = subst (Ordered k) (sym (s.2 ∙ ap (λ (b : bell.Bell). record r { bell = b }) s.1.3))
    (record { rest = i.rest; due = i.due; own = rung k w r i (bell.Ring.Raised s.1.0) (λ e. sym (ap (is_own_ring w) s.1.2) ∙ i.own w e) })
ordered k w WakesOther r t s i = subst (Ordered k) (sym (s.4 ∙ ap (λ (b : bell.Bell). record r { bell = b }) s.3.4)) (lies k s.3.0 r i bell.Rest.Up (put r.bell.ring w Idle) refl (rung k w r i Idle (λ e. refl)))
ordered k w WakesNobody r t s i = subst (Ordered k) (sym (s.4 ∙ ap (λ (b : bell.Bell). record r { bell = b }) s.3.3)) (record { rest = i.rest; due = i.due; own = rung k w r i Idle (λ e. refl) })
ordered k w HasRung r t s i = subst (Ordered k) (sym (s.5)) (goes k w r i (goes_on s.0) r.due r.active r.has_chunk (ap plain s.1) (goes_up s.0) i.due)
ordered k w CallsNext r t s i = subst (Ordered k) (sym (s.2)) (goes k w r i Turns r.due r.active r.has_chunk (ap plain s.1) refl i.due)

pub ordered_at : (k : ℕ) (at : ℕ → Whole) → IsRun k at → (n : ℕ) → Ordered k (at n)
ordered_at k at run zero = subst (Ordered k) (sym run.begins) (record { rest = λ v. refl; due = λ v u e. absurd (not_both false e refl); own = λ v e. absurd (not_both false e refl) })
ordered_at k at run (suc n) = let next : n + 1 ≡ suc n = omega arith in subst (λ m. Ordered k (at m)) next (by (ordered_at k at run n) (run.steps n))
  where
    by : Ordered k (at n) → (at (n + 1) ≡ at n) ⊎ ((w : ℕ) × (d : Does) × (w < k) × Step k w d (at n) (at (n + 1))) → Ordered k (at (n + 1))
    by i (inl e) = subst (Ordered k) (sym e) i
    by i (inr s) = ordered k s.0 s.1 (at n) (at (n + 1)) s.3 i

-- Its next step

module _ (k w : ℕ) (s : Whole) (lt : w < k) (i : Kept k s) (o : Ordered k s) where
  abbrev Next : Type 0
  Next = (Sleeps s w ⊎ IsAway s w) ⊎ GoesOn k w s

  in_lobby : (d : lobby.Does) (l : lobby.Lobby) → is_allowed d (s.task w) ≡ true → is_own (InLobby d) ≡ true → lobby.Step k w d s.lobby l → Next
  in_lobby d l ok own step = inr (record { does = InLobby d; to = record s { lobby = l }; own = own; step = (l, ok, step, refl) })

  does : (d : Does) (t : Whole) → is_own d ≡ true → Step k w d s t → Next
  does d t own step = inr (record { does = d; to = t; own = own; step = step })

  counts_down : s.owes w ≡ true → Next
  counts_down e = by s.asleep refl
    where
      some : 0 < s.asleep
      some = let a = some_counted s.owes k w lt e in let b = i.count in omega (arith, a, b)

      by : (n : ℕ) → s.asleep ≡ n → Next
      by zero f = absurd (omega (arith, some, f))
      by (suc m) f = does CountsDown (record s { asleep = m; owes = put s.owes w false }) refl (m, e, omega (arith, f), refl)

  -- whoever lies in a place is one of the k
  in_place : (j : ℕ) → s.bell.lies j ≡ true → j < k
  in_place j e = is_one k j s (i.sound j) (λ f. (let bad : Away ≡ Rests = sym f ∙ (i.sound j).place e in cc))

  lying : s.task w ≡ LiesDown → (y : bell.Rest) → s.bell.rest w ≡ y → (b : Bool) → s.adds w ≡ b → Next
  lying e y f false g = does CountsItself (record s { asleep = s.asleep + 1; adds = put s.adds w true }) refl (e, g, refl)
  lying e bell.Rest.Up f true g = (let b : bell.Bell = record s.bell { rest = put s.bell.rest w (bell.Rest.Reads (s.bell.rings w)) } in does ReadsRings (record s { bell = b }) refl (b, e, (f, refl), refl))
  lying e (bell.Rest.Reads n) f true g = (let b : bell.Bell = record s.bell { rest = put s.bell.rest w (bell.Rest.Lies n); lies = put s.bell.lies w true } in
      does NotesPlace (record (does_next s w Rests) { bell = b; adds = put s.adds w false }) refl (b, e, g, (n, f, refl), refl))
  lying e (bell.Rest.Lies n) f true g = absurd (let a = o.rest w in not_both (fits (s.task w) (s.bell.rest w)) a (ap (λ z. fits z (s.bell.rest w)) e ∙ ap (fits LiesDown) f))
  lying e (bell.Rest.Asleep n) f true g = absurd (let a = o.rest w in not_both (fits (s.task w) (s.bell.rest w)) a (ap (λ z. fits z (s.bell.rest w)) e ∙ ap (fits LiesDown) f))

  looking : (j : ℕ) (a : After) → s.task w ≡ Looks j a → (b : Bool) → s.bell.lies j ≡ b → Next
  looking j a e false f = does FindsNobody (does_next s w (Looks (j + 1) a)) refl (j, a, e, f, refl)
  looking j a e true f = does FindsOne (record (does_next s w (RingsFor a)) { due = made_due s w j true }) refl (j, a, e, in_place j f, f, refl)

  seeing : (j : ℕ) (c : Bool) (a : After) → s.task w ≡ Sees j c a → (b : Bool) → s.bell.lies j ≡ b → (h : Bool) → is_hungry s j ≡ h → Next
  seeing j c a e false f h g = does SeesNobody (does_next s w (Sees (j + 1) c a)) refl (j, c, a, e, f, refl)
  seeing j c a e true f false g = does SeesFed (record (does_next s w (Sees (j + 1) c a)) { due = made_due s w j true }) refl (j, c, a, e, in_place j f, f, g, refl)
  seeing j false a e true f true g = does SeesHungry (record (does_next s w (Sees (j + 1) true a)) { due = made_due s w j true }) refl (j, a, e, in_place j f, f, g, refl)
  seeing j true a e true f true g = does SeesAnother (does_next s w (Sees (j + 1) true a)) refl (j, a, e, f, g, refl)

  gives : s.lobby.at w ≡ Holds → keeps_desk (s.task w) ≡ false → Next
  gives e f = in_lobby lobby.Does.Gives (record (lobby.goes s.lobby w Gave) { free = true }) (ap not f) refl (e, refl)

  holding : (x : Task) → s.task w ≡ x → s.lobby.at w ≡ Holds → Next
  holding Away e h = gives h (ap keeps_desk e)
  holding Turns e h = gives h (ap keeps_desk e)
  holding LiesDown e h = lying e (s.bell.rest w) refl (s.adds w) refl
  holding Rests e h = gives h (ap keeps_desk e)
  holding Rises e h = gives h (ap keeps_desk e)
  holding Works e h = gives h (ap keeps_desk e)
  holding Loads e h = gives h (ap keeps_desk e)
  holding (Looks j a) e h = looking j a e (s.bell.lies j) refl
  holding (Sees j c a) e h = seeing j c a e (s.bell.lies j) refl (is_hungry s j) refl
  holding (RingsFor a) e h = gives h (ap keeps_desk e)

  asks : s.lobby.at w ≡ Out → wants (s.task w) ≡ true → Next
  asks e f = in_lobby lobby.Does.Wants (lobby.goes s.lobby w Comes) f refl (e, refl)

  not_out : keeps_desk (s.task w) ≡ true → s.lobby.at w ≡ Out → Next
  not_out e f = absurd (let bad : Out ≡ Holds = sym f ∙ (i.sound w).desk e in cc)

  resting : s.task w ≡ Rests → s.lobby.at w ≡ Out → (y : bell.Rest) → s.bell.rest w ≡ y → (b : Bool) → s.owes w ≡ b → Next
  resting e f bell.Rest.Up g true h = counts_down h
  resting e f bell.Rest.Up g false h = does GetsUp (record (does_next s w Rises) { bell = bell.is_up s.bell w; owes = owed s w w }) refl (e, f, g, h, refl)
  resting e f (bell.Rest.Reads n) g b h = absurd (not_both (fits (s.task w) (s.bell.rest w)) (o.rest w) (ap (λ z. fits z (s.bell.rest w)) e ∙ ap (fits Rests) g))
  resting e f (bell.Rest.Lies n) g b h = (let c : bell.Bell = record s.bell { rest = put s.bell.rest w bell.Rest.Up } in does StaysUp (record s { bell = c }) refl (c, e, f, (n, g, refl), refl))
  resting e f (bell.Rest.Asleep n) g b h = inl (inl (inr (n, g)))

  -- it reads v's rings, and raises them
  counting : (v : ℕ) → s.bell.ring w ≡ Cleared v → Next
  counting v e = (let c : bell.Bell = record s.bell { ring = put s.bell.ring w (Counted v (s.bell.rings v)) } in does CountsRings (record s { bell = c }) refl (c, (v, e, refl), refl))

  raising : (v m : ℕ) → s.bell.ring w ≡ Counted v m → Next
  raising v m e = (let c : bell.Bell = bell.raised s.bell w v m in does RaisesRings (record s { bell = c }) refl (c, (v, m, e, refl), refl))

  rising : s.task w ≡ Rises → (g : bell.Ring) → s.bell.ring w ≡ g → Next
  rising e g f = by g f (sym (ap (is_own_ring w) f) ∙ o.own w (ap rises e))
    where
      up : (s.bell.ring w ≡ Idle) ⊎ (s.bell.ring w ≡ bell.Ring.Raised w) → Next
      up z = does HasRisen (record (does_next s w Turns) { bell = record s.bell { ring = put s.bell.ring w Idle } }) refl (e, z, refl)

      by : (g : bell.Ring) → s.bell.ring w ≡ g → is_own_ring w g ≡ true → Next
      by Idle f own = up (inl f)
      by (Rings v) f own = absurd (not_both false own refl)
      by (Cleared v) f own = counting v f
      by (Counted v m) f own = raising v m f
      by (bell.Ring.Raised v) f own = up (inr (f ∙ ap (λ (n : ℕ). bell.Ring.Raised n) (same_number v w own)))

  waking : (a : After) → s.task w ≡ RingsFor a → (v : ℕ) → s.bell.ring w ≡ bell.Ring.Raised v → (y : bell.Rest) → s.bell.rest v ≡ y → Next
  waking a r v e (bell.Rest.Asleep n) f = (let c : bell.Bell = record s.bell { ring = put s.bell.ring w Idle; rest = put s.bell.rest v bell.Rest.Up } in does WakesOther (record s { bell = c }) refl (c, a, r, (v, n, e, f, refl), refl))
  waking a r v e bell.Rest.Up f = (let c : bell.Bell = record s.bell { ring = put s.bell.ring w Idle } in does WakesNobody (record s { bell = c }) refl (c, a, r, (v, e, (λ n g. (let bad : bell.Rest.Up ≡ bell.Rest.Asleep n = sym f ∙ g in cc)), refl), refl))
  waking a r v e (bell.Rest.Reads m) f = (let c : bell.Bell = record s.bell { ring = put s.bell.ring w Idle } in does WakesNobody (record s { bell = c }) refl (c, a, r, (v, e, (λ n g. (let bad : bell.Rest.Reads m ≡ bell.Rest.Asleep n = sym f ∙ g in cc)), refl), refl))
  waking a r v e (bell.Rest.Lies m) f = (let c : bell.Bell = record s.bell { ring = put s.bell.ring w Idle } in does WakesNobody (record s { bell = c }) refl (c, a, r, (v, e, (λ n g. (let bad : bell.Rest.Lies m ≡ bell.Rest.Asleep n = sym f ∙ g in cc)), refl), refl))

  ringing : (a : After) → s.task w ≡ RingsFor a → s.lobby.at w ≡ Out → (g : bell.Ring) → s.bell.ring w ≡ g → (b : Bool) → s.owes w ≡ b → Next
  ringing a e f Idle g b h = by (any_below (s.due w) k) refl
    where
      no_more : any_below (s.due w) k ≡ false → (v : ℕ) → s.due w v ≡ false
      no_more z v = if_not (s.due w v) (λ d. not_both (s.due w v) d (any_none_at (s.due w) k v z (o.due w v d)))

      by : (c : Bool) → any_below (s.due w) k ≡ c → Next
      by true z = (let v = any_find (s.due w) k z in let c : bell.Bell = record s.bell { ring = put s.bell.ring w (Rings v.0) } in does (IsToRing v.0) (record s { bell = c }) refl (c, a, e, f, v.2, (g, refl), refl))
      by false z = does HasRung (does_next s w (goes_on a)) refl (a, e, f, no_more z, g, refl)
  ringing a e f (Rings v) g true h = counts_down h
  ringing a e f (Rings v) g false h = does ClearsPlace (record s { bell = bell.cleared s.bell w v; owes = owed s w v; due = made_due s w v false }) refl (v, a, e, g, h, refl)
  ringing a e f (Cleared v) g b h = counting v g
  ringing a e f (Counted v m) g b h = raising v m g
  ringing a e f (bell.Ring.Raised v) g b h = waking a e v g (s.bell.rest v) refl

  outside : (x : Task) → s.task w ≡ x → s.lobby.at w ≡ Out → Next
  outside Away e f = inl (inr (e, f))
  outside Turns e f = asks f (ap wants e)
  outside LiesDown e f = not_out (ap keeps_desk e) f
  outside Rests e f = resting e f (s.bell.rest w) refl (s.owes w) refl
  outside Rises e f = rising e (s.bell.ring w) refl
  outside Works e f = asks f (ap wants e)
  outside Loads e f = asks f (ap wants e)
  outside (Looks j a) e f = not_out (ap keeps_desk e) f
  outside (Sees j c a) e f = not_out (ap keeps_desk e) f
  outside (RingsFor a) e f = ringing a e f (s.bell.ring w) refl (s.owes w) refl

  entered : (n : ℕ) → s.lobby.at w ≡ Entered n → (b : Bool) → s.lobby.free ≡ b → Next
  entered n e true f = in_lobby lobby.Does.Finds (record (lobby.goes s.lobby w Holds) { free = false }) refl refl (n, e, f, refl)
  entered n e false f = in_lobby lobby.Does.Misses (lobby.goes s.lobby w (Looked n)) refl refl (n, e, f, refl)

  found : s.lobby.at w ≡ Found → (n : ℕ) → s.lobby.waiting ≡ n → Next
  found e zero f = in_lobby lobby.Does.IsLate (lobby.goes s.lobby w Out) refl refl (e, f, refl)
  found e (suc m) f = in_lobby lobby.Does.Counts (record (lobby.goes s.lobby w Taken) { waiting = m }) refl refl (m, e, omega (arith, f), refl)

  raised : s.lobby.at w ≡ Raised → (b : Bool) → any_below (λ v. lobby.is_asleep (s.lobby.at v)) k ≡ b → Next
  raised e false f = in_lobby lobby.Does.WakesNone (lobby.goes s.lobby w Out) refl refl (e, count_off (λ v. lobby.is_asleep (s.lobby.at v)) k f, refl)
  raised e true f = let v = any_find (λ v. lobby.is_asleep (s.lobby.at v)) k f in by v.0 v.1 (s.lobby.at v.0) refl v.2
    where
      wake : (v n : ℕ) → v < k → s.lobby.at v ≡ Asleep n → Next
      wake v n lv g = in_lobby (lobby.Does.Wakes v) (lobby.goes (lobby.goes s.lobby w Out) v Comes) refl refl (n, lv, e, g, refl)

      by : (v : ℕ) → v < k → (p : lobby.Stage) → s.lobby.at v ≡ p → lobby.is_asleep (s.lobby.at v) ≡ true → Next
      by v lv (Asleep n) g h = wake v n lv g
      by v lv Out g h = absurd (not_both (lobby.is_asleep (s.lobby.at v)) h (ap lobby.is_asleep g))
      by v lv Holds g h = absurd (not_both (lobby.is_asleep (s.lobby.at v)) h (ap lobby.is_asleep g))
      by v lv Comes g h = absurd (not_both (lobby.is_asleep (s.lobby.at v)) h (ap lobby.is_asleep g))
      by v lv (Read n) g h = absurd (not_both (lobby.is_asleep (s.lobby.at v)) h (ap lobby.is_asleep g))
      by v lv (Entered n) g h = absurd (not_both (lobby.is_asleep (s.lobby.at v)) h (ap lobby.is_asleep g))
      by v lv (Looked n) g h = absurd (not_both (lobby.is_asleep (s.lobby.at v)) h (ap lobby.is_asleep g))
      by v lv Gave g h = absurd (not_both (lobby.is_asleep (s.lobby.at v)) h (ap lobby.is_asleep g))
      by v lv Found g h = absurd (not_both (lobby.is_asleep (s.lobby.at v)) h (ap lobby.is_asleep g))
      by v lv Taken g h = absurd (not_both (lobby.is_asleep (s.lobby.at v)) h (ap lobby.is_asleep g))
      by v lv Raised g h = absurd (not_both (lobby.is_asleep (s.lobby.at v)) h (ap lobby.is_asleep g))

  next : (p : lobby.Stage) → s.lobby.at w ≡ p → Next
  next Out e = outside (s.task w) refl e
  next Holds e = holding (s.task w) refl e
  next Comes e = in_lobby lobby.Does.Reads (lobby.goes s.lobby w (Read s.lobby.calls)) refl refl (e, refl)
  next (Read n) e = in_lobby lobby.Does.Enters (record (lobby.goes s.lobby w (Entered n)) { waiting = s.lobby.waiting + 1 }) refl refl (n, e, refl)
  next (Entered n) e = entered n e s.lobby.free refl
  next (Looked n) e = in_lobby lobby.Does.Stays (lobby.goes s.lobby w Comes) refl refl (n, e, refl)
  next (Asleep n) e = inl (inl (inl (n, e)))
  next Gave e = in_lobby lobby.Does.SeesSome (lobby.goes s.lobby w Found) refl refl (e, refl)
  next Found e = found e s.lobby.waiting refl
  next Taken e = in_lobby lobby.Does.Raises (record (lobby.goes s.lobby w Raised) { calls = s.lobby.calls + 1 }) refl refl (e, refl)
  next Raised e = raised e (any_below (λ v. lobby.is_asleep (s.lobby.at v)) k) refl

-- some of the first m goes on, or each of them sleeps or is away
among : (k : ℕ) (s : Whole) → Kept k s → Ordered k s → (m : ℕ) → m ≤ k → ((v : ℕ) → v < m → Sleeps s v ⊎ IsAway s v) ⊎ ((w : ℕ) × (w < k) × GoesOn k w s)
among k s i o zero le = inl (λ v lt. absurd (omega (arith, lt)))
among k s i o (suc m) le = by (among k s i o m (omega (arith, le))) (next k m s (omega (arith, le)) i o (s.lobby.at m) refl)
  where
    by : ((v : ℕ) → v < m → Sleeps s v ⊎ IsAway s v) ⊎ ((w : ℕ) × (w < k) × GoesOn k w s) → (Sleeps s m ⊎ IsAway s m) ⊎ GoesOn k m s
        → ((v : ℕ) → v < suc m → Sleeps s v ⊎ IsAway s v) ⊎ ((w : ℕ) × (w < k) × GoesOn k w s)
    by (inr x) y = inr x
    by (inl x) (inr y) = inr (m, omega (arith, le), y)
    by (inl x) (inl y) = inl (λ v lt. pick v lt (v == m) refl)
      where
        pick : (v : ℕ) → v < suc m → (b : Bool) → (v == m) ≡ b → Sleeps s v ⊎ IsAway s v
        pick v lt true at = subst (λ n. Sleeps s n ⊎ IsAway s n) (sym (same_number v m at)) y
        pick v lt false at = x v (grind (arith, nat_tests))

pub never_stands_still : NeverStandsStill
never_stands_still k at run n = by (among k (at n) (kept_at k at run n) (ordered_at k at run n) k (omega arith))
  where
    by : ((v : ℕ) → v < k → Sleeps (at n) v ⊎ IsAway (at n) v) ⊎ ((w : ℕ) × (w < k) × GoesOn k w (at n)) → ((v : ℕ) → v < k → IsAway (at n) v) ⊎ ((w : ℕ) × (w < k) × GoesOn k w (at n))
    by (inl each) = inl (never_do_all_sleep k at run n each)
    by (inr x) = inr x
