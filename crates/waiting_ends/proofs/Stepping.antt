-- Whoever doesn't sleep may take a step in the order of the program.
use Rattle.std.proofs.Common.{◌≡◌, ◌==◌, ◌+◌, ◌<◌, ◌≤◌, ◌⊎◌, not, true, false, ℕ, suc, zero, Bool, refl, sym, ◌∙◌, ap, subst, arith, inl, inr}
use Rattle.std.proofs.lemmas.Bool.Decides.{nat_tests}
use Rattle.scan_story.specs.Counting.{any_below}
use Rattle.story_laws.proofs.Bools.{if_not, not_both, same_number, unequal}
use Rattle.story_laws.proofs.Counts.{any_find, any_none_at, count_off}
use Rattle.waiting_core.specs.Put.{put}
use Rattle.waiting_core.specs.Lobby as lobby
use Rattle.waiting_core.specs.Bell as bell
use Rattle.waiting_core.specs.Whole as machine
use Rattle.waiting_core.specs.Lobby.Stage.{Out, Holds, Comes, Read, Entered, Looked, Asleep, Gave, Found, Taken, Raised}
use Rattle.waiting_core.specs.Bell.Ring.{Idle, Rings, Cleared, Counted}
use Rattle.waiting_core.specs.Whole.{Whole, Task, After, Does, Sleeps, does_next, goes_on, is_hungry, keeps_desk, made_due, owed, stays_active, wants}
use Rattle.waiting_core.specs.Whole.After.{Turning, Working, Loading, Over}
use Rattle.waiting_core.specs.Whole.Task.{Away, Turns, LiesDown, Rests, Rises, Works, Loads, Looks, Sees, RingsFor}
use Rattle.waiting_core.specs.Whole.Does.{InLobby, Registers, Decides, CountsItself, ReadsRings, NotesPlace, FallsAsleep, StaysUp, Starts, GetsUp, HasRisen, CountsDown, TurnsTo, RingsForNone, FindsNobody, FindsOne, FindsNone, Settles, Stops, StopsLate, SeesNobody, SeesFed, SeesHungry, SeesAnother, HasSeen, IsToRing, ClearsPlace, CountsRings, RaisesRings, WakesOther, WakesNobody, HasRung, CallsNext}
use Rattle.waiting_core.proofs.Holding.{Kept, is_one}
use Rattle.waiting_core.proofs.Lobbies.{some_counted}
use Rattle.waiting_core.proofs.Sounds.{rises}
use Rattle.waiting_core.proofs.Going.{Ordered, fits, is_own_ring}
use Rattle.waiting_ends.specs.Order.{Crew, InOrder, IsPlace, MayStep, NobodyIsStuck, is_served}
use Rattle.waiting_ends.specs.Order.Act.{Makes}
use Rattle.waiting_ends.proofs.Placing.{IsPlaced, Within, kept, ordered, placed}

module _ (k w : ℕ) (r : Crew) (lt : w < k) (i : Kept k r.whole) (o : Ordered k r.whole) (j : IsPlaced k r w) where
  abbrev Next : Type 0
  Next = Sleeps r.whole w ⊎ MayStep k w r

  does : (d : Does) (t : Whole) → machine.is_own d ≡ true → InOrder k w d r → machine.Step k w d r.whole t → Next
  does d t own order step = inr (record {
    act = Makes d;
    to = record { whole = t; served = put r.served w (is_served d (r.served w)) };
    own = own;
    step = (t, step, order, refl);
  })

  in_lobby : (d : lobby.Does) (l : lobby.Lobby) → machine.is_allowed d (r.whole.task w) ≡ true → machine.is_own (InLobby d) ≡ true → InOrder k w (InLobby d) r → lobby.Step k w d r.whole.lobby l → Next
  in_lobby d l ok own order step = does (InLobby d) (record r.whole { lobby = l }) own order (l, ok, step, refl)

  counts_down : r.whole.owes w ≡ true → Next
  counts_down e = by r.whole.asleep refl
    where
      some : 0 < r.whole.asleep
      some = let a = some_counted r.whole.owes k w lt e in let b = i.count in omega (arith, a, b)

      by : (n : ℕ) → r.whole.asleep ≡ n → Next
      by zero f = absurd (omega (arith, some, f))
      by (suc m) f = does CountsDown (record r.whole { asleep = m; owes = put r.whole.owes w false }) refl tt (m, e, omega (arith, f), refl)

  -- whoever lies in a place is one of the k
  in_place : (n : ℕ) → r.whole.bell.lies n ≡ true → n < k
  in_place n e = is_one k n r.whole (i.sound n) (λ f. (let bad : Away ≡ Rests = sym f ∙ (i.sound n).place e in cc))

  -- how w rests doesn't fit its task
  unfit : {X : Type 0} (x : Task) (y : bell.Rest) → r.whole.task w ≡ x → r.whole.bell.rest w ≡ y → fits x y ≡ false → X
  unfit x y e f g = absurd (not_both (fits x y) (sym (ap (λ z. fits z y) e) ∙ (sym (ap (fits (r.whole.task w)) f) ∙ o.rest w)) g)

  lying : r.whole.task w ≡ LiesDown → (y : bell.Rest) → r.whole.bell.rest w ≡ y → (b : Bool) → r.whole.adds w ≡ b → Next
  lying e y f false g = does CountsItself (record r.whole { asleep = r.whole.asleep + 1; adds = put r.whole.adds w true }) refl tt (e, g, refl)
  lying e bell.Rest.Up f true g = (let b : bell.Bell = record r.whole.bell { rest = put r.whole.bell.rest w (bell.Rest.Reads (r.whole.bell.rings w)) } in does ReadsRings (record r.whole { bell = b }) refl tt (b, e, (f, refl), refl))
  lying e (bell.Rest.Reads n) f true g = (let b : bell.Bell = record r.whole.bell { rest = put r.whole.bell.rest w (bell.Rest.Lies n); lies = put r.whole.bell.lies w true } in
      does NotesPlace (record (does_next r.whole w Rests) { bell = b; adds = put r.whole.adds w false }) refl tt (b, e, g, (n, f, refl), refl))
  lying e (bell.Rest.Lies n) f true g = unfit LiesDown (bell.Rest.Lies n) e f refl
  lying e (bell.Rest.Asleep n) f true g = unfit LiesDown (bell.Rest.Asleep n) e f refl

  looking : (n : ℕ) (a : After) → r.whole.task w ≡ Looks n a → (c : Bool) → (n == k) ≡ c → (b : Bool) → r.whole.bell.lies n ≡ b → Next
  looking n a e true at b f = does FindsNone (does_next r.whole w (RingsFor a)) refl tt (a, e ∙ ap (λ (m : ℕ). Looks m a) (same_number n k at), refl)
  looking n a e false at true f = does FindsOne (record (does_next r.whole w (RingsFor a)) { due = made_due r.whole w n true }) refl tt (n, a, e, in_place n f, f, refl)
  looking n a e false at false f = does FindsNobody (does_next r.whole w (Looks (n + 1) a)) refl (subst (IsPlace k) (sym e) less) (n, a, e, f, refl)
    where
      less : n < k
      less = let le : n ≤ k = subst (Within k) e j.within in let ne = unequal n k at in grind (arith, nat_tests)

  seeing : (n : ℕ) (c : Bool) (a : After) → r.whole.task w ≡ Sees n c a → (d : Bool) → (n == k) ≡ d → (b : Bool) → r.whole.bell.lies n ≡ b → (h : Bool) → is_hungry r.whole n ≡ h → Next
  seeing n c a e true at b f h g = does HasSeen (does_next r.whole w (RingsFor a)) refl tt (c, a, e ∙ ap (λ (m : ℕ). Sees m c a) (same_number n k at), refl)
  seeing n c a e false at false f h g = does SeesNobody (does_next r.whole w (Sees (n + 1) c a)) refl (subst (IsPlace k) (sym e) less) (n, c, a, e, f, refl)
    where
      less : n < k
      less = let le : n ≤ k = subst (Within k) e j.within in let ne = unequal n k at in grind (arith, nat_tests)
  seeing n c a e false at true f false g = does SeesFed (record (does_next r.whole w (Sees (n + 1) c a)) { due = made_due r.whole w n true }) refl tt (n, c, a, e, in_place n f, f, g, refl)
  seeing n false a e false at true f true g = does SeesHungry (record (does_next r.whole w (Sees (n + 1) true a)) { due = made_due r.whole w n true }) refl tt (n, a, e, in_place n f, f, g, refl)
  seeing n true a e false at true f true g = does SeesAnother (does_next r.whole w (Sees (n + 1) true a)) refl (subst (IsPlace k) (sym e) (in_place n f)) (n, a, e, f, g, refl)

  gives : r.whole.lobby.at w ≡ Holds → r.served w ≡ true → keeps_desk (r.whole.task w) ≡ false → Next
  gives e b f = in_lobby lobby.Does.Gives (record (lobby.goes r.whole.lobby w Gave) { free = true }) (ap not f) refl b (e, refl)

  stopping : r.whole.lobby.at w ≡ Holds → r.served w ≡ false → r.whole.task w ≡ Works → (b : Bool) → r.whole.active w ≡ b → Next
  stopping h v e true a = does Stops (record (does_next r.whole w (Sees 0 false Over)) { active = put r.whole.active w false }) refl v (h, e, a, refl)
  stopping h v e false a = does StopsLate (does_next r.whole w Away) refl v (h, e, a, refl)

  -- it has the desk, and hasn't done there what it came for
  comes_for : (x : Task) → r.whole.task w ≡ x → r.whole.lobby.at w ≡ Holds → r.served w ≡ false → wants x ≡ true → Next
  comes_for Away e h v f = does Registers (record (does_next r.whole w Works) { active = put r.whole.active w true; has_chunk = put r.whole.has_chunk w false }) refl v (false, h, e, refl)
  comes_for Turns e h v f = does (TurnsTo Over) (record (does_next r.whole w (Looks 0 Over)) { active = put r.whole.active w (stays_active Over (r.whole.active w)); has_chunk = r.whole.has_chunk }) refl
      (v, λ z. cc) (r.whole.has_chunk, h, e, refl, λ u off g. g, refl)
  comes_for Works e h v f = stopping h v e (r.whole.active w) refl
  comes_for Loads e h v f = does Settles (record (does_next r.whole w (Sees 0 false Turning)) { active = r.whole.active; has_chunk = r.whole.has_chunk }) refl v
      (r.whole.active, r.whole.has_chunk, h, e, λ u g. g, refl)
  comes_for LiesDown e h v f = absurd (not_both false f refl)
  comes_for Rests e h v f = absurd (not_both false f refl)
  comes_for Rises e h v f = absurd (not_both false f refl)
  comes_for (Looks n a) e h v f = absurd (not_both false f refl)
  comes_for (Sees n c a) e h v f = absurd (not_both false f refl)
  comes_for (RingsFor a) e h v f = absurd (not_both false f refl)

  has_come_for : (x : Task) → r.whole.task w ≡ x → r.whole.lobby.at w ≡ Holds → r.served w ≡ true → Next
  has_come_for Away e h v = gives h v (ap keeps_desk e)
  has_come_for Turns e h v = gives h v (ap keeps_desk e)
  has_come_for LiesDown e h v = lying e (r.whole.bell.rest w) refl (r.whole.adds w) refl
  has_come_for Rests e h v = gives h v (ap keeps_desk e)
  has_come_for Rises e h v = gives h v (ap keeps_desk e)
  has_come_for Works e h v = gives h v (ap keeps_desk e)
  has_come_for Loads e h v = gives h v (ap keeps_desk e)
  has_come_for (Looks n a) e h v = looking n a e (n == k) refl (r.whole.bell.lies n) refl
  has_come_for (Sees n c a) e h v = seeing n c a e (n == k) refl (r.whole.bell.lies n) refl (is_hungry r.whole n) refl
  has_come_for (RingsFor a) e h v = gives h v (ap keeps_desk e)

  holding : r.whole.lobby.at w ≡ Holds → (b : Bool) → r.served w ≡ b → Next
  holding h false v = comes_for (r.whole.task w) refl h v (j.wanted h v)
  holding h true v = has_come_for (r.whole.task w) refl h v

  asks : r.whole.lobby.at w ≡ Out → wants (r.whole.task w) ≡ true → Next
  asks e f = in_lobby lobby.Does.Wants (lobby.goes r.whole.lobby w Comes) f refl tt (e, refl)

  not_out : keeps_desk (r.whole.task w) ≡ true → r.whole.lobby.at w ≡ Out → Next
  not_out e f = absurd (let bad : Out ≡ Holds = sym f ∙ (i.sound w).desk e in cc)

  resting : r.whole.task w ≡ Rests → r.whole.lobby.at w ≡ Out → (y : bell.Rest) → r.whole.bell.rest w ≡ y → (b : Bool) → r.whole.owes w ≡ b → Next
  resting e f bell.Rest.Up g true h = counts_down h
  resting e f bell.Rest.Up g false h = does GetsUp (record (does_next r.whole w Rises) { bell = bell.is_up r.whole.bell w; owes = owed r.whole w w }) refl tt (e, f, g, h, refl)
  resting e f (bell.Rest.Reads n) g b h = unfit Rests (bell.Rest.Reads n) e g refl
  resting e f (bell.Rest.Asleep n) g b h = inl (inr (n, g))
  resting e f (bell.Rest.Lies n) g b h = by (n == r.whole.bell.rings w) refl
    where
      by : (c : Bool) → (n == r.whole.bell.rings w) ≡ c → Next
      by true same = (let c : bell.Bell = record r.whole.bell { rest = put r.whole.bell.rest w (bell.Rest.Asleep n) } in
          does FallsAsleep (record r.whole { bell = c }) refl tt (c, e, f, (n, g, same_number n (r.whole.bell.rings w) same, refl), refl))
      by false late = (let c : bell.Bell = record r.whole.bell { rest = put r.whole.bell.rest w bell.Rest.Up } in
          does StaysUp (record r.whole { bell = c }) refl (λ z. (let same : bell.Rest.Lies n ≡ bell.Rest.Lies (r.whole.bell.rings w) = sym g ∙ z in let at : n ≡ r.whole.bell.rings w = cc in unequal n (r.whole.bell.rings w) late at)) (c, e, f, (n, g, refl), refl))

  -- it reads v's rings, and raises them
  counting : (v : ℕ) → r.whole.bell.ring w ≡ Cleared v → (b : Bool) → r.whole.owes w ≡ b → Next
  counting v e true f = counts_down f
  counting v e false f = (let c : bell.Bell = record r.whole.bell { ring = put r.whole.bell.ring w (Counted v (r.whole.bell.rings v)) } in does CountsRings (record r.whole { bell = c }) refl f (c, (v, e, refl), refl))

  raising : (v m : ℕ) → r.whole.bell.ring w ≡ Counted v m → Next
  raising v m e = (let c : bell.Bell = bell.raised r.whole.bell w v m in does RaisesRings (record r.whole { bell = c }) refl tt (c, (v, m, e, refl), refl))

  rising : r.whole.task w ≡ Rises → (g : bell.Ring) → r.whole.bell.ring w ≡ g → Next
  rising e g f = by g f (sym (ap (is_own_ring w) f) ∙ o.own w (ap rises e))
    where
      up : (r.whole.bell.ring w ≡ Idle) ⊎ (r.whole.bell.ring w ≡ bell.Ring.Raised w) → Next
      up z = does HasRisen (record (does_next r.whole w Turns) { bell = record r.whole.bell { ring = put r.whole.bell.ring w Idle } }) refl tt (e, z, refl)

      by : (g : bell.Ring) → r.whole.bell.ring w ≡ g → is_own_ring w g ≡ true → Next
      by Idle f own = up (inl f)
      by (Rings v) f own = absurd (not_both false own refl)
      by (Cleared v) f own = counting v f (r.whole.owes w) refl
      by (Counted v m) f own = raising v m f
      by (bell.Ring.Raised v) f own = up (inr (f ∙ ap (λ (n : ℕ). bell.Ring.Raised n) (same_number v w own)))

  wakes_nobody : (a : After) → r.whole.task w ≡ RingsFor a → (v : ℕ) → r.whole.bell.ring w ≡ bell.Ring.Raised v → ((n : ℕ) → r.whole.bell.rest v ≡ bell.Rest.Asleep n → ⊥) → Next
  wakes_nobody a e v f up = (let c : bell.Bell = record r.whole.bell { ring = put r.whole.bell.ring w Idle } in does WakesNobody (record r.whole { bell = c }) refl tt (c, a, e, (v, f, up, refl), refl))

  waking : (a : After) → r.whole.task w ≡ RingsFor a → (v : ℕ) → r.whole.bell.ring w ≡ bell.Ring.Raised v → (y : bell.Rest) → r.whole.bell.rest v ≡ y → Next
  waking a e v g (bell.Rest.Asleep n) f = (let c : bell.Bell = record r.whole.bell { ring = put r.whole.bell.ring w Idle; rest = put r.whole.bell.rest v bell.Rest.Up } in does WakesOther (record r.whole { bell = c }) refl tt (c, a, e, (v, n, g, f, refl), refl))
  waking a e v g bell.Rest.Up f = wakes_nobody a e v g (λ n h. (let bad : bell.Rest.Up ≡ bell.Rest.Asleep n = sym f ∙ h in cc))
  waking a e v g (bell.Rest.Reads m) f = wakes_nobody a e v g (λ n h. (let bad : bell.Rest.Reads m ≡ bell.Rest.Asleep n = sym f ∙ h in cc))
  waking a e v g (bell.Rest.Lies m) f = wakes_nobody a e v g (λ n h. (let bad : bell.Rest.Lies m ≡ bell.Rest.Asleep n = sym f ∙ h in cc))

  ringing : (a : After) → r.whole.task w ≡ RingsFor a → r.whole.lobby.at w ≡ Out → (g : bell.Ring) → r.whole.bell.ring w ≡ g → (b : Bool) → r.whole.owes w ≡ b → Next
  ringing a e f Idle g b h = by (any_below (r.whole.due w) k) refl
    where
      no_more : any_below (r.whole.due w) k ≡ false → (v : ℕ) → r.whole.due w v ≡ false
      no_more z v = if_not (r.whole.due w v) (λ d. not_both (r.whole.due w v) d (any_none_at (r.whole.due w) k v z (o.due w v d)))

      by : (c : Bool) → any_below (r.whole.due w) k ≡ c → Next
      by true z = (let v = any_find (r.whole.due w) k z in let c : bell.Bell = record r.whole.bell { ring = put r.whole.bell.ring w (Rings v.0) } in does (IsToRing v.0) (record r.whole { bell = c }) refl tt (c, a, e, f, v.2, (g, refl), refl))
      by false z = does HasRung (does_next r.whole w (goes_on a)) refl tt (a, e, f, no_more z, g, refl)
  ringing a e f (Rings v) g true h = counts_down h
  ringing a e f (Rings v) g false h = does ClearsPlace (record r.whole { bell = bell.cleared r.whole.bell w v; owes = owed r.whole w v; due = made_due r.whole w v false }) refl tt (v, a, e, g, h, refl)
  ringing a e f (Cleared v) g b h = counting v g b h
  ringing a e f (Counted v m) g b h = raising v m g
  ringing a e f (bell.Ring.Raised v) g b h = waking a e v g (r.whole.bell.rest v) refl

  outside : (x : Task) → r.whole.task w ≡ x → r.whole.lobby.at w ≡ Out → Next
  outside Away e f = asks f (ap wants e)
  outside Turns e f = asks f (ap wants e)
  outside LiesDown e f = not_out (ap keeps_desk e) f
  outside Rests e f = resting e f (r.whole.bell.rest w) refl (r.whole.owes w) refl
  outside Rises e f = rising e (r.whole.bell.ring w) refl
  outside Works e f = asks f (ap wants e)
  outside Loads e f = asks f (ap wants e)
  outside (Looks n a) e f = not_out (ap keeps_desk e) f
  outside (Sees n c a) e f = not_out (ap keeps_desk e) f
  outside (RingsFor a) e f = ringing a e f (r.whole.bell.ring w) refl (r.whole.owes w) refl

  entered : (n : ℕ) → r.whole.lobby.at w ≡ Entered n → (b : Bool) → r.whole.lobby.free ≡ b → Next
  entered n e true f = in_lobby lobby.Does.Finds (record (lobby.goes r.whole.lobby w Holds) { free = false }) refl refl tt (n, e, f, refl)
  entered n e false f = in_lobby lobby.Does.Misses (lobby.goes r.whole.lobby w (Looked n)) refl refl tt (n, e, f, refl)

  looked : (n : ℕ) → r.whole.lobby.at w ≡ Looked n → (b : Bool) → (n == r.whole.lobby.calls) ≡ b → Next
  looked n e true f = in_lobby lobby.Does.Sleeps (lobby.goes r.whole.lobby w (Asleep n)) refl refl tt (n, e, same_number n r.whole.lobby.calls f, refl)
  looked n e false f = in_lobby lobby.Does.Stays (lobby.goes r.whole.lobby w Comes) refl refl
      (λ z. (let same : Looked n ≡ Looked r.whole.lobby.calls = sym e ∙ z in let at : n ≡ r.whole.lobby.calls = cc in unequal n r.whole.lobby.calls f at)) (n, e, refl)

  gave : r.whole.lobby.at w ≡ Gave → (n : ℕ) → r.whole.lobby.waiting ≡ n → Next
  gave e zero f = in_lobby lobby.Does.SeesNone (lobby.goes r.whole.lobby w Out) refl refl tt (e, f, refl)
  gave e (suc m) f = in_lobby lobby.Does.SeesSome (lobby.goes r.whole.lobby w Found) refl refl (omega (arith, f)) (e, refl)

  found : r.whole.lobby.at w ≡ Found → (n : ℕ) → r.whole.lobby.waiting ≡ n → Next
  found e zero f = in_lobby lobby.Does.IsLate (lobby.goes r.whole.lobby w Out) refl refl tt (e, f, refl)
  found e (suc m) f = in_lobby lobby.Does.Counts (record (lobby.goes r.whole.lobby w Taken) { waiting = m }) refl refl tt (m, e, omega (arith, f), refl)

  sleeper : (p : lobby.Stage) → lobby.is_asleep p ≡ true → (n : ℕ) × (p ≡ Asleep n)
  sleeper (Asleep n) e = (n, refl)
  sleeper Out e = absurd (not_both false e refl)
  sleeper Holds e = absurd (not_both false e refl)
  sleeper Comes e = absurd (not_both false e refl)
  sleeper (Read n) e = absurd (not_both false e refl)
  sleeper (Entered n) e = absurd (not_both false e refl)
  sleeper (Looked n) e = absurd (not_both false e refl)
  sleeper Gave e = absurd (not_both false e refl)
  sleeper Found e = absurd (not_both false e refl)
  sleeper Taken e = absurd (not_both false e refl)
  sleeper Raised e = absurd (not_both false e refl)

  raised : r.whole.lobby.at w ≡ Raised → (b : Bool) → any_below (λ v. lobby.is_asleep (r.whole.lobby.at v)) k ≡ b → Next
  raised e false f = in_lobby lobby.Does.WakesNone (lobby.goes r.whole.lobby w Out) refl refl tt (e, count_off (λ v. lobby.is_asleep (r.whole.lobby.at v)) k f, refl)
  raised e true f = (
      let v = any_find (λ v. lobby.is_asleep (r.whole.lobby.at v)) k f in
      let n = sleeper (r.whole.lobby.at v.0) v.2 in
      in_lobby (lobby.Does.Wakes v.0) (lobby.goes (lobby.goes r.whole.lobby w Out) v.0 Comes) refl refl tt (n.0, v.1, e, n.1, refl))

  pub next : (p : lobby.Stage) → r.whole.lobby.at w ≡ p → Next
  next Out e = outside (r.whole.task w) refl e
  next Holds e = holding e (r.served w) refl
  next Comes e = in_lobby lobby.Does.Reads (lobby.goes r.whole.lobby w (Read r.whole.lobby.calls)) refl refl tt (e, refl)
  next (Read n) e = in_lobby lobby.Does.Enters (record (lobby.goes r.whole.lobby w (Entered n)) { waiting = r.whole.lobby.waiting + 1 }) refl refl tt (n, e, refl)
  next (Entered n) e = entered n e r.whole.lobby.free refl
  next (Looked n) e = looked n e (n == r.whole.lobby.calls) refl
  next (Asleep n) e = inl (inl (n, e))
  next Gave e = gave e r.whole.lobby.waiting refl
  next Found e = found e r.whole.lobby.waiting refl
  next Taken e = in_lobby lobby.Does.Raises (record (lobby.goes r.whole.lobby w Raised) { calls = r.whole.lobby.calls + 1 }) refl refl tt (e, refl)
  next Raised e = raised e (any_below (λ v. lobby.is_asleep (r.whole.lobby.at v)) k) refl

pub nobody_is_stuck : NobodyIsStuck
nobody_is_stuck k at run n w lt = next k w (at n) lt (kept k at run n) (ordered k at run n) (placed k at run n w) ((at n).whole.lobby.at w) refl
