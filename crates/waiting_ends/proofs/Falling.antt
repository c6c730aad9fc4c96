-- Each step of a worker that writes nothing lowers the weight, unless it gets out of its sleep by itself.
use Rattle.std.proofs.Common.{◌≡◌, ◌==◌, ◌+◌, ◌-◌, ◌*◌, ◌<◌, ◌≤◌, true, false, ℕ, suc, Bool, max, if◌then◌else◌, refl, ◌∙◌, ap, arith}
use Rattle.story_laws.proofs.Bools.{not_both, other_number, same_number, self_number}
use Rattle.waiting_core.specs.Put.{put}
use Rattle.waiting_core.specs.Lobby as lobby
use Rattle.waiting_core.specs.Bell as bell
use Rattle.waiting_core.specs.Lobby.Stage.{Out, Holds, Comes, Read, Entered, Looked, Asleep, Gave, Found, Taken, Raised}
use Rattle.waiting_core.specs.Bell.Ring.{Idle, Rings, Cleared, Counted}
use Rattle.waiting_core.specs.Whole.{Whole, Task, After, Does, does_next, goes_on, made_due, owed, stays_active}
use Rattle.waiting_core.specs.Whole.After.{Turning, Working, Loading, Over}
use Rattle.waiting_core.specs.Whole.Task.{Away, Turns, LiesDown, Rests, Rises, Works, Loads, Looks, Sees, RingsFor}
use Rattle.waiting_core.specs.Whole.Does.{InLobby, Decides, CountsItself, ReadsRings, NotesPlace, FallsAsleep, StaysUp, GetsUp, HasRisen, CountsDown, TurnsTo, RingsForNone, FindsNobody, FindsOne, FindsNone, StopsLate, HasSeen, IsToRing, ClearsPlace, CountsRings, RaisesRings, WakesOther, WakesNobody, HasRung, CallsNext}
use Rattle.waiting_core.proofs.Puts.{at_put, off_put}
use Rattle.waiting_core.proofs.Lobbies.{is_other}
use Rattle.waiting_core.proofs.Sounds.{may_ring, rises}
use Rattle.waiting_ends.specs.Order.{Crew, is_served}
use Rattle.waiting_ends.proofs.Totals.{total, total_less, total_mono, total_moved, total_paid, total_two}
use Rattle.waiting_ends.proofs.Weights.{Parts, adding, ahead, dues, is_rung, late, missed, one_due, owing, parts, resting, ringing, stage, weigh, weight}

-- Parts that have a bound

adding_most : (x : Task) (b : Bool) → adding x b ≤ 1
adding_most Away b = omega arith
adding_most Turns b = omega arith
adding_most LiesDown true = omega arith
adding_most LiesDown false = omega arith
adding_most Rests b = omega arith
adding_most Rises b = omega arith
adding_most Works b = omega arith
adding_most Loads b = omega arith
adding_most (Looks i a) b = omega arith
adding_most (Sees i c a) b = omega arith
adding_most (RingsFor a) b = omega arith

owing_most : (b : Bool) → owing b ≤ 1
owing_most true = omega arith
owing_most false = omega arith

missed_most : (k : ℕ) (b : Bool) → missed k b ≤ 5 * k + 32
missed_most k true = omega arith
missed_most k false = omega arith

-- where v was rung for once more
rested_more : (k n m : ℕ) (x : Task) (y : bell.Rest) → resting k m x y ≤ resting k n x y + (5 * k + 32)
rested_more k n m LiesDown bell.Rest.Up = omega arith
rested_more k n m LiesDown (bell.Rest.Reads j) = omega (arith, missed_most k (j == m))
rested_more k n m LiesDown (bell.Rest.Lies j) = omega arith
rested_more k n m LiesDown (bell.Rest.Asleep j) = omega arith
rested_more k n m Rests bell.Rest.Up = omega arith
rested_more k n m Rests (bell.Rest.Reads j) = omega arith
rested_more k n m Rests (bell.Rest.Lies j) = omega (arith, missed_most k (j == m))
rested_more k n m Rests (bell.Rest.Asleep j) = omega arith
rested_more k n m Away y = omega arith
rested_more k n m Turns y = omega arith
rested_more k n m Rises y = omega arith
rested_more k n m Works y = omega arith
rested_more k n m Loads y = omega arith
rested_more k n m (Looks i a) y = omega arith
rested_more k n m (Sees i b a) y = omega arith
rested_more k n m (RingsFor a) y = omega arith

-- where it was woken
woken_more : (k n j : ℕ) (x : Task) → resting k n x bell.Rest.Up ≤ resting k n x (bell.Rest.Asleep j) + (5 * k + 32)
woken_more k n j LiesDown = omega arith
woken_more k n j Rests = omega arith
woken_more k n j Away = omega arith
woken_more k n j Turns = omega arith
woken_more k n j Rises = omega arith
woken_more k n j Works = omega arith
woken_more k n j Loads = omega arith
woken_more k n j (Looks i a) = omega arith
woken_more k n j (Sees i b a) = omega arith
woken_more k n j (RingsFor a) = omega arith

-- whoever may ring doesn't rest
rests_not : (k n : ℕ) (x : Task) (y : bell.Rest) → may_ring x ≡ true → resting k n x y ≡ 0
rests_not k n LiesDown y e = absurd (not_both false e refl)
rests_not k n Rests y e = absurd (not_both false e refl)
rests_not k n Away y e = refl
rests_not k n Turns y e = refl
rests_not k n Rises y e = refl
rests_not k n Works y e = refl
rests_not k n Loads y e = refl
rests_not k n (Looks i a) y e = refl
rests_not k n (Sees i b a) y e = refl
rests_not k n (RingsFor a) y e = refl

late_most : (b : Bool) → late b ≤ 5
late_most true = omega arith
late_most false = omega arith

-- where somebody was called once more
called_more : (k c : ℕ) (p : lobby.Stage) → stage k (c + 1) p ≤ stage k c p + 5
called_more k c Out = omega arith
called_more k c Holds = omega arith
called_more k c Comes = omega arith
called_more k c (Read n) = omega (arith, late_most (n == (c + 1)))
called_more k c (Entered n) = omega (arith, late_most (n == (c + 1)))
called_more k c (Looked n) = omega (arith, late_most (n == (c + 1)))
called_more k c (Asleep n) = omega arith
called_more k c Gave = omega arith
called_more k c Found = omega arith
called_more k c Taken = omega arith
called_more k c Raised = omega arith

pub late_is : (b : Bool) → (b ≡ true → ⊥) → late b ≡ 5
late_is true f = absurd (f refl)
late_is false f = refl

missed_is : (k : ℕ) (b : Bool) → (b ≡ true → ⊥) → missed k b ≡ 5 * k + 32
missed_is k true f = absurd (f refl)
missed_is k false f = refl

counts_less : (k u n : ℕ) (b : Bool) → ringing k b (Counted u n) < ringing k b (Cleared u)
counts_less k u n true = omega arith
counts_less k u n false = omega arith

rises_most : (k w : ℕ) (b : Bool) → ringing k true (if b then Cleared w else Idle) ≤ 3
rises_most k w true = omega arith
rises_most k w false = omega arith

-- who is due to be rung for

due_most : (k : ℕ) (a b : Bool) → one_due k a b ≤ 10 * k + 71
due_most k true true = omega arith
due_most k true false = omega arith
due_most k false b = omega arith

due_more : (k i : ℕ) (g : bell.Ring) (d : ℕ → Bool) → i < k → dues k g (put d i true) ≤ dues k g d + (10 * k + 71)
due_more k i g d lt =
    let a = total_moved (λ u. one_due k (put d i true u) (is_rung g u)) (λ u. one_due k (d u) (is_rung g u)) i k lt
    (λ v l o. (let e = ap (λ b. one_due k b (is_rung g v)) (off_put d i true v o) in omega (arith, e))) in
    let b = due_most k (put d i true i) (is_rung g i) in
    omega (arith, a, b)

-- one that is rung for is no longer due
due_rung : (k v : ℕ) (d : ℕ → Bool) → v < k → d v ≡ true → dues k (Rings v) d + (10 * k + 71) ≤ dues k Idle d
due_rung k v d lt e =
    let a = total_moved (λ u. one_due k (d u) (u == v)) (λ u. one_due k (d u) false) v k lt
    (λ u l o. (let f = ap (one_due k (d u)) o in omega (arith, f))) in
    let b : one_due k (d v) (v == v) ≡ 0 = ap (one_due k (d v)) (self_number v) ∙ ap (λ c. one_due k c true) e in
    let c : one_due k (d v) false ≡ 10 * k + 71 = ap (λ c. one_due k c false) e in
    omega (arith, a, b, c)

due_cleared : (k v : ℕ) (d : ℕ → Bool) → dues k (Cleared v) (put d v false) ≤ dues k (Rings v) d
due_cleared k v d = total_mono (λ u. one_due k (put d v false u) false) (λ u. one_due k (d u) (u == v)) k (λ u l. by u (u == v) refl)
  where
    by : (u : ℕ) (b : Bool) → (u == v) ≡ b → one_due k (put d v false u) false ≤ one_due k (d u) (u == v)
    by u true at = let e = ap (λ c. one_due k c false) (ap (put d v false) (same_number u v at) ∙ at_put d v false) in omega (arith, e)
    by u false at =
        let e = ap (λ c. one_due k c false) (off_put d v false u at) in
        let f = ap (one_due k (d u)) at in
        omega (arith, e, f)

own_dues : (k w : ℕ) (d : ℕ → Bool) (b : Bool) → dues k (if b then Cleared w else Idle) d ≡ dues k Idle d
own_dues k w d true = refl
own_dues k w d false = refl

places_left : (k i : ℕ) → i < k → total (λ v. 10 * k + 72) (k - i) ≡ 10 * k + 72 + total (λ v. 10 * k + 72) (k - (i + 1))
places_left k i lt = let e : k - i ≡ suc (k - (i + 1)) = omega (arith, lt) in ap (total (λ v. 10 * k + 72)) e

-- Only w's parts changed

abbrev goes_parts : Does → Task → Bool → (ℕ → Bool) → Parts → Parts
goes_parts d x a u z = record z { task = x; active = a; due = u; served = is_served d z.served }

abbrev walks_parts : lobby.Does → lobby.Stage → Parts → Parts
walks_parts d b z = record z { at = b; served = is_served (InLobby d) z.served }

abbrev rests_parts : Does → bell.Rest → Parts → Parts
rests_parts d y z = record z { rest = y; served = is_served d z.served }

abbrev rings_parts : Does → bell.Ring → Parts → Parts
rings_parts d g z = record z { ring = g; served = is_served d z.served }

abbrev counts_parts : Does → Bool → Bool → Parts → Parts
counts_parts d a b z = record z { adds = a; owes = b; served = is_served d z.served }

abbrev notes_parts : ℕ → Parts → Parts
notes_parts n z = record z { task = Rests; rest = bell.Rest.Lies n; adds = false }

abbrev rises_parts : bell.Ring → Bool → Parts → Parts
rises_parts g b z = record z { task = Rises; ring = g; owes = b }

abbrev risen_parts : Parts → Parts
risen_parts z = record z { task = Turns; ring = Idle }

abbrev clears_parts : ℕ → Bool → (ℕ → Bool) → Parts → Parts
clears_parts v b d z = record z { ring = Cleared v; owes = b; due = d }

abbrev raised_parts : ℕ → ℕ → Parts → Parts
raised_parts u n z = record z { ring = bell.Ring.Raised u; rings = n }

abbrev rung_parts : ℕ → Parts → Parts
rung_parts n z = record z { rings = n }

abbrev woke_parts : bell.Rest → Parts → Parts
woke_parts y z = record z { ring = Idle; rest = y }

abbrev woken_parts : Parts → Parts
woken_parts z = record z { rest = bell.Rest.Up }

abbrev called_parts : ℕ → lobby.Stage → Parts → Parts
called_parts c p z = record z { calls = c; at = p }

module _ (k w : ℕ) (r : Crew) (lt : w < k) where
  abbrev next : Does → Whole → Crew
  next d z = record { whole = z; served = put r.served w (is_served d (r.served w)) }

  other : (d : Does) (v : ℕ) → (v == w) ≡ false → put r.served w (is_served d (r.served w)) v ≡ r.served v
  other d v o = off_put r.served w (is_served d (r.served w)) v o

  self : (d : Does) → put r.served w (is_served d (r.served w)) w ≡ is_served d (r.served w)
  self d = at_put r.served w (is_served d (r.served w))

  falls : (t : Crew) (q p : Parts) → ((v : ℕ) → (v == w) ≡ false → parts t v ≡ parts r v) → parts t w ≡ q → parts r w ≡ p → weigh k q < weigh k p
      → weight k t < weight k r
  falls t q p off own was less =
      total_less (λ v. weigh k (parts t v)) (λ v. weigh k (parts r v)) w k lt (λ v l o. (let e = ap (weigh k) (off v o) in omega (arith, e)))
      (let a = ap (weigh k) own in let b = ap (weigh k) was in omega (arith, a, b, less))

  -- w goes on to a task
  goes : (d : Does) (x : Task) (u : ℕ → ℕ → Bool) (a c : ℕ → Bool) (dw : ℕ → Bool) (p : Parts) → ((v : ℕ) → (v == w) ≡ false → u v ≡ r.whole.due v)
      → ((v : ℕ) → (v == w) ≡ false → a v ≡ r.whole.active v) → u w ≡ dw → parts r w ≡ p → weigh k (goes_parts d x (a w) dw p) < weigh k p
      → weight k (next d (record (does_next r.whole w x) { due = u; active = a; has_chunk = c })) < weight k r
  goes d x u a c dw p due act own was less =
      falls (next d (record (does_next r.whole w x) { due = u; active = a; has_chunk = c })) (goes_parts d x (a w) dw p) p
      (λ v o. (let e = off_put r.whole.task w x v o in let f = due v o in let g = act v o in let h = other d v o in rw (e, f, g, h) refl))
      ((let e = at_put r.whole.task w x in let h = self d in rw (e, own, h) refl) ∙ ap (goes_parts d x (a w) dw) was)
      was less

  -- nobody new is due, and the queries are as they were
  goes_to : (d : Does) (x : Task) (p : Parts) → parts r w ≡ p → weigh k (goes_parts d x (r.whole.active w) (r.whole.due w) p) < weigh k p
      → weight k (next d (does_next r.whole w x)) < weight k r
  goes_to d x p was less = goes d x r.whole.due r.whole.active r.whole.has_chunk (r.whole.due w) p (λ v o. refl) (λ v o. refl) refl was less

  -- one more is due
  goes_due : (d : Does) (i : ℕ) (x : Task) (p : Parts) → parts r w ≡ p → weigh k (goes_parts d x (r.whole.active w) (put (r.whole.due w) i true) p) < weigh k p
      → weight k (next d (record (does_next r.whole w x) { due = made_due r.whole w i true })) < weight k r
  goes_due d i x p was less = goes d x (made_due r.whole w i true) r.whole.active r.whole.has_chunk (put (r.whole.due w) i true) p
      (λ v o. off_put r.whole.due w (put (r.whole.due w) i true) v o) (λ v o. refl) (at_put r.whole.due w (put (r.whole.due w) i true)) was less

  pub decides : r.whole.lobby.at w ≡ Holds → r.whole.task w ≡ Turns → r.served w ≡ false → r.whole.bell.rest w ≡ bell.Rest.Up
      → weight k (next Decides (does_next r.whole w LiesDown)) < weight k r
  decides h e s u = goes_to Decides LiesDown (record (parts r w) { at = Holds; task = Turns; served = false; rest = bell.Rest.Up }) (rw (h, e, s, u) refl)
      (omega (arith, adding_most LiesDown (r.whole.adds w)))

  pub turns_over : (c : ℕ → Bool) → r.whole.lobby.at w ≡ Holds → r.whole.task w ≡ Turns → r.served w ≡ false → r.whole.active w ≡ false
      → weight k (next (TurnsTo Over) (record (does_next r.whole w (Looks 0 Over)) { active = put r.whole.active w (stays_active Over (r.whole.active w)); has_chunk = c })) < weight k r
  turns_over c h e s a = goes (TurnsTo Over) (Looks 0 Over) r.whole.due (put r.whole.active w (stays_active Over (r.whole.active w))) c (r.whole.due w)
      (record (parts r w) { at = Holds; task = Turns; served = false; active = false }) (λ v o. refl) (λ v o. off_put r.whole.active w (stays_active Over (r.whole.active w)) v o) refl
      (rw (h, e, s, a) refl) (omega arith)

  pub rings_for_none : (a : After) → r.whole.task w ≡ Looks 0 a → weight k (next RingsForNone (does_next r.whole w (RingsFor a))) < weight k r
  rings_for_none a e = goes_to RingsForNone (RingsFor a) (record (parts r w) { task = Looks 0 a }) (rw (e) refl) (omega arith)

  pub finds_nobody : (i : ℕ) (a : After) → r.whole.task w ≡ Looks i a → i < k → weight k (next FindsNobody (does_next r.whole w (Looks (i + 1) a))) < weight k r
  finds_nobody i a e l = goes_to FindsNobody (Looks (i + 1) a) (record (parts r w) { task = Looks i a }) (rw (e) refl) (omega (arith, l))

  pub finds_one : (i : ℕ) (a : After) → r.whole.task w ≡ Looks i a → i < k
      → weight k (next FindsOne (record (does_next r.whole w (RingsFor a)) { due = made_due r.whole w i true })) < weight k r
  finds_one i a e l = goes_due FindsOne i (RingsFor a) (record (parts r w) { task = Looks i a }) (rw (e) refl)
      (omega (arith, l, due_more k i (r.whole.bell.ring w) (r.whole.due w) l))

  pub finds_none : (a : After) → r.whole.task w ≡ Looks k a → weight k (next FindsNone (does_next r.whole w (RingsFor a))) < weight k r
  finds_none a e = goes_to FindsNone (RingsFor a) (record (parts r w) { task = Looks k a }) (rw (e) refl) (omega arith)

  pub stops_late : r.whole.lobby.at w ≡ Holds → r.whole.task w ≡ Works → r.served w ≡ false → weight k (next StopsLate (does_next r.whole w Away)) < weight k r
  stops_late h e s = goes_to StopsLate Away (record (parts r w) { at = Holds; task = Works; served = false }) (rw (h, e, s) refl) (omega arith)

  -- from one place to the next, with nobody new that is due
  pub sees_on : (d : Does) (i : ℕ) (b c : Bool) (a : After) → is_served d (r.served w) ≡ r.served w → r.whole.task w ≡ Sees i b a → i < k
      → weight k (next d (does_next r.whole w (Sees (i + 1) c a))) < weight k r
  sees_on d i b c a same e l = goes_to d (Sees (i + 1) c a) (record (parts r w) { task = Sees i b a }) (rw (e) refl)
      (let f = places_left k i l in let g = ap (ahead k (r.whole.lobby.at w)) same in omega (arith, f, g))

  pub sees_one : (d : Does) (i : ℕ) (b c : Bool) (a : After) → is_served d (r.served w) ≡ r.served w → r.whole.task w ≡ Sees i b a → i < k
      → weight k (next d (record (does_next r.whole w (Sees (i + 1) c a)) { due = made_due r.whole w i true })) < weight k r
  sees_one d i b c a same e l = goes_due d i (Sees (i + 1) c a) (record (parts r w) { task = Sees i b a }) (rw (e) refl)
      (let f = places_left k i l in let g = ap (ahead k (r.whole.lobby.at w)) same in omega (arith, f, g, due_more k i (r.whole.bell.ring w) (r.whole.due w) l))

  pub has_seen : (b : Bool) (a : After) → r.whole.task w ≡ Sees k b a → weight k (next HasSeen (does_next r.whole w (RingsFor a))) < weight k r
  has_seen b a e = goes_to HasSeen (RingsFor a) (record (parts r w) { task = Sees k b a }) (rw (e) refl) (omega arith)

  pub has_rung : (a : After) → r.whole.task w ≡ RingsFor a → weight k (next HasRung (does_next r.whole w (goes_on a))) < weight k r
  has_rung Turning e = goes_to HasRung Turns (record (parts r w) { task = RingsFor Turning }) (rw (e) refl) (omega arith)
  has_rung Working e = goes_to HasRung Works (record (parts r w) { task = RingsFor Working }) (rw (e) refl) (omega arith)
  has_rung Loading e = goes_to HasRung Loads (record (parts r w) { task = RingsFor Loading }) (rw (e) refl) (omega arith)
  has_rung Over e = goes_to HasRung Away (record (parts r w) { task = RingsFor Over }) (rw (e) refl) (omega arith)

  pub calls_next : r.whole.task w ≡ Works → weight k (next CallsNext (does_next r.whole w Turns)) < weight k r
  calls_next e = goes_to CallsNext Turns (record (parts r w) { task = Works }) (rw (e) refl) (omega arith)

  -- the bell's count
  pub counts_itself : r.whole.task w ≡ LiesDown → r.whole.adds w ≡ false
      → weight k (next CountsItself (record r.whole { asleep = r.whole.asleep + 1; adds = put r.whole.adds w true })) < weight k r
  counts_itself e a = falls (next CountsItself (record r.whole { asleep = r.whole.asleep + 1; adds = put r.whole.adds w true }))
      (counts_parts CountsItself true (r.whole.owes w) p) p
      (λ v o. (let f = off_put r.whole.adds w true v o in let h = other CountsItself v o in rw (f, h) refl))
      ((let f = at_put r.whole.adds w true in let h = self CountsItself in rw (f, h) refl) ∙ ap (counts_parts CountsItself true (r.whole.owes w)) was) was (omega arith)
    where
      p : Parts
      p = record (parts r w) { task = LiesDown; adds = false }

      was : parts r w ≡ p
      was = rw (e, a) refl

  pub counts_down : (m : ℕ) → r.whole.owes w ≡ true → weight k (next CountsDown (record r.whole { asleep = m; owes = put r.whole.owes w false })) < weight k r
  counts_down m e = falls (next CountsDown (record r.whole { asleep = m; owes = put r.whole.owes w false })) (counts_parts CountsDown (r.whole.adds w) false p) p
      (λ v o. (let f = off_put r.whole.owes w false v o in let h = other CountsDown v o in rw (f, h) refl))
      ((let f = at_put r.whole.owes w false in let h = self CountsDown in rw (f, h) refl) ∙ ap (counts_parts CountsDown (r.whole.adds w) false) was) was (omega arith)
    where
      p : Parts
      p = record (parts r w) { owes = true }

      was : parts r w ≡ p
      was = rw (e) refl

  -- w rests otherwise
  rests : (d : Does) (y : bell.Rest) (p : Parts) → parts r w ≡ p → weigh k (rests_parts d y p) < weigh k p
      → weight k (next d (record r.whole { bell = record r.whole.bell { rest = put r.whole.bell.rest w y } })) < weight k r
  rests d y p was less = falls (next d (record r.whole { bell = record r.whole.bell { rest = put r.whole.bell.rest w y } })) (rests_parts d y p) p
      (λ v o. (let f = off_put r.whole.bell.rest w y v o in let h = other d v o in rw (f, h) refl))
      ((let f = at_put r.whole.bell.rest w y in let h = self d in rw (f, h) refl) ∙ ap (rests_parts d y) was) was less

  pub reads_rings : r.whole.task w ≡ LiesDown → r.whole.bell.rest w ≡ bell.Rest.Up
      → weight k (next ReadsRings (record r.whole { bell = record r.whole.bell { rest = put r.whole.bell.rest w (bell.Rest.Reads (r.whole.bell.rings w)) } })) < weight k r
  reads_rings e u = rests ReadsRings (bell.Rest.Reads (r.whole.bell.rings w)) (record (parts r w) { task = LiesDown; rest = bell.Rest.Up }) (rw (e, u) refl)
      (let f = ap (missed k) (self_number (r.whole.bell.rings w)) in omega (arith, f))

  pub falls_asleep : (n : ℕ) → r.whole.task w ≡ Rests → r.whole.bell.rest w ≡ bell.Rest.Lies n
      → weight k (next FallsAsleep (record r.whole { bell = record r.whole.bell { rest = put r.whole.bell.rest w (bell.Rest.Asleep n) } })) < weight k r
  falls_asleep n e u = rests FallsAsleep (bell.Rest.Asleep n) (record (parts r w) { task = Rests; rest = bell.Rest.Lies n }) (rw (e, u) refl) (omega arith)

  pub stays_up : (n : ℕ) → r.whole.task w ≡ Rests → r.whole.bell.rest w ≡ bell.Rest.Lies n → ((n == r.whole.bell.rings w) ≡ true → ⊥)
      → weight k (next StaysUp (record r.whole { bell = record r.whole.bell { rest = put r.whole.bell.rest w bell.Rest.Up } })) < weight k r
  stays_up n e u late = rests StaysUp bell.Rest.Up (record (parts r w) { task = Rests; rest = bell.Rest.Lies n }) (rw (e, u) refl)
      (let f = missed_is k (n == r.whole.bell.rings w) late in omega (arith, f))

  pub notes : (n : ℕ) → r.whole.task w ≡ LiesDown → r.whole.bell.rest w ≡ bell.Rest.Reads n → r.whole.adds w ≡ true
      → weight k (next NotesPlace (record (does_next r.whole w Rests) { bell = record r.whole.bell { rest = put r.whole.bell.rest w (bell.Rest.Lies n); lies = put r.whole.bell.lies w true }; adds = put r.whole.adds w false })) < weight k r
  notes n e u a = falls
      (next NotesPlace (record (does_next r.whole w Rests) { bell = record r.whole.bell { rest = put r.whole.bell.rest w (bell.Rest.Lies n); lies = put r.whole.bell.lies w true }; adds = put r.whole.adds w false }))
      (notes_parts n p) p
      (λ v o. (let f = off_put r.whole.bell.rest w (bell.Rest.Lies n) v o in let g = off_put r.whole.adds w false v o in let x = off_put r.whole.task w Rests v o in let h = other NotesPlace v o in rw (f, g, x, h) refl))
      ((let f = at_put r.whole.bell.rest w (bell.Rest.Lies n) in let g = at_put r.whole.adds w false in let x = at_put r.whole.task w Rests in let h = self NotesPlace in rw (f, g, x, h) refl) ∙ ap (notes_parts n) was)
      was (omega arith)
    where
      p : Parts
      p = record (parts r w) { task = LiesDown; rest = bell.Rest.Reads n; adds = true }

      was : parts r w ≡ p
      was = rw (e, u, a) refl

  owed_off : (u v : ℕ) → (v == w) ≡ false → owed r.whole w u v ≡ r.whole.owes v
  owed_off u v o = by (r.whole.bell.lies u)
    where
      by : (b : Bool) → (if b then put r.whole.owes w true else r.whole.owes) v ≡ r.whole.owes v
      by true = off_put r.whole.owes w true v o
      by false = refl

  pub gets_up : r.whole.task w ≡ Rests → r.whole.bell.rest w ≡ bell.Rest.Up → r.whole.bell.ring w ≡ Idle
      → weight k (next GetsUp (record (does_next r.whole w Rises) { bell = bell.is_up r.whole.bell w; owes = owed r.whole w w })) < weight k r
  gets_up e u i = falls (next GetsUp (record (does_next r.whole w Rises) { bell = bell.is_up r.whole.bell w; owes = owed r.whole w w }))
      (rises_parts g (owed r.whole w w w) p) p
      (λ v o. (let f = off_put r.whole.bell.ring w g v o in let y = owed_off w v o in let x = off_put r.whole.task w Rises v o in let h = other GetsUp v o in rw (f, y, x, h) refl))
      ((let f = at_put r.whole.bell.ring w g in let x = at_put r.whole.task w Rises in let h = self GetsUp in rw (f, x, h) refl) ∙ ap (rises_parts g (owed r.whole w w w)) was)
      was (omega (arith, owing_most (owed r.whole w w w), rises_most k w (r.whole.bell.lies w), own_dues k w (r.whole.due w) (r.whole.bell.lies w)))
    where
      g : bell.Ring
      g = bell.own_ring r.whole.bell w

      p : Parts
      p = record (parts r w) { task = Rests; rest = bell.Rest.Up; ring = Idle }

      was : parts r w ≡ p
      was = rw (e, u, i) refl

  pub has_risen : (g : bell.Ring) → dues k g (r.whole.due w) ≡ dues k Idle (r.whole.due w) → r.whole.task w ≡ Rises → r.whole.bell.ring w ≡ g
      → weight k (next HasRisen (record (does_next r.whole w Turns) { bell = record r.whole.bell { ring = put r.whole.bell.ring w Idle } })) < weight k r
  has_risen g same e i = falls (next HasRisen (record (does_next r.whole w Turns) { bell = record r.whole.bell { ring = put r.whole.bell.ring w Idle } })) (risen_parts p) p
      (λ v o. (let f = off_put r.whole.bell.ring w Idle v o in let x = off_put r.whole.task w Turns v o in let h = other HasRisen v o in rw (f, x, h) refl))
      ((let f = at_put r.whole.bell.ring w Idle in let x = at_put r.whole.task w Turns in let h = self HasRisen in rw (f, x, h) refl) ∙ ap risen_parts was)
      was (omega (arith, same))
    where
      p : Parts
      p = record (parts r w) { task = Rises; ring = g }

      was : parts r w ≡ p
      was = rw (e, i) refl

  -- w is at another ring
  turns_ring : (d : Does) (g : bell.Ring) (p : Parts) → parts r w ≡ p → weigh k (rings_parts d g p) < weigh k p
      → weight k (next d (record r.whole { bell = record r.whole.bell { ring = put r.whole.bell.ring w g } })) < weight k r
  turns_ring d g p was less = falls (next d (record r.whole { bell = record r.whole.bell { ring = put r.whole.bell.ring w g } })) (rings_parts d g p) p
      (λ v o. (let f = off_put r.whole.bell.ring w g v o in let h = other d v o in rw (f, h) refl))
      ((let f = at_put r.whole.bell.ring w g in let h = self d in rw (f, h) refl) ∙ ap (rings_parts d g) was) was less

  pub is_to_ring : (v : ℕ) (a : After) → v < k → r.whole.due w v ≡ true → r.whole.task w ≡ RingsFor a → r.whole.bell.ring w ≡ Idle
      → weight k (next (IsToRing v) (record r.whole { bell = record r.whole.bell { ring = put r.whole.bell.ring w (Rings v) } })) < weight k r
  is_to_ring v a l d e i = turns_ring (IsToRing v) (Rings v) (record (parts r w) { task = RingsFor a; ring = Idle }) (rw (e, i) refl)
      (omega (arith, due_rung k v (r.whole.due w) l d))

  pub counts_rings : (u n : ℕ) → r.whole.bell.ring w ≡ Cleared u
      → weight k (next CountsRings (record r.whole { bell = record r.whole.bell { ring = put r.whole.bell.ring w (Counted u n) } })) < weight k r
  counts_rings u n i = turns_ring CountsRings (Counted u n) (record (parts r w) { ring = Cleared u }) (rw (i) refl) (omega (arith, counts_less k u n (rises (r.whole.task w))))

  pub wakes_nobody : (v : ℕ) (a : After) → r.whole.task w ≡ RingsFor a → r.whole.bell.ring w ≡ bell.Ring.Raised v
      → weight k (next WakesNobody (record r.whole { bell = record r.whole.bell { ring = put r.whole.bell.ring w Idle } })) < weight k r
  wakes_nobody v a e i = turns_ring WakesNobody Idle (record (parts r w) { task = RingsFor a; ring = bell.Ring.Raised v }) (rw (e, i) refl) (omega arith)

  pub clears_place : (v : ℕ) (a : After) → r.whole.task w ≡ RingsFor a → r.whole.bell.ring w ≡ Rings v → r.whole.owes w ≡ false
      → weight k (next ClearsPlace (record r.whole { bell = bell.cleared r.whole.bell w v; owes = owed r.whole w v; due = made_due r.whole w v false })) < weight k r
  clears_place v a e i n = falls (next ClearsPlace (record r.whole { bell = bell.cleared r.whole.bell w v; owes = owed r.whole w v; due = made_due r.whole w v false }))
      (clears_parts v (owed r.whole w v w) (put (r.whole.due w) v false) p) p
      (λ u o. (let f = off_put r.whole.bell.ring w (Cleared v) u o in let y = owed_off v u o in let x = off_put r.whole.due w (put (r.whole.due w) v false) u o in let h = other ClearsPlace u o in rw (f, y, x, h) refl))
      ((let f = at_put r.whole.bell.ring w (Cleared v) in let x = at_put r.whole.due w (put (r.whole.due w) v false) in let h = self ClearsPlace in rw (f, x, h) refl) ∙ ap (clears_parts v (owed r.whole w v w) (put (r.whole.due w) v false)) was)
      was (omega (arith, owing_most (owed r.whole w v w), due_cleared k v (r.whole.due w)))
    where
      p : Parts
      p = record (parts r w) { task = RingsFor a; ring = Rings v; owes = false }

      was : parts r w ≡ p
      was = rw (e, i, n) refl

  -- In the lobby
  pub walks : (d : lobby.Does) (b : lobby.Stage) (f : Bool) (m : ℕ) (p : Parts) → parts r w ≡ p → weigh k (walks_parts d b p) < weigh k p
      → weight k (next (InLobby d) (record r.whole { lobby = record (lobby.goes r.whole.lobby w b) { free = f; waiting = m } })) < weight k r
  walks d b f m p was less = falls (next (InLobby d) (record r.whole { lobby = record (lobby.goes r.whole.lobby w b) { free = f; waiting = m } })) (walks_parts d b p) p
      (λ v o. (let x = off_put r.whole.lobby.at w b v o in let h = other (InLobby d) v o in rw (x, h) refl))
      ((let x = at_put r.whole.lobby.at w b in let h = self (InLobby d) in rw (x, h) refl) ∙ ap (walks_parts d b) was) was less

  -- Where a second worker's parts change too
  pub raises_rings : (u m : ℕ) → r.whole.bell.ring w ≡ Counted u m → may_ring (r.whole.task w) ≡ true → (rises (r.whole.task w) ≡ true → (u == w) ≡ true)
      → weight k (next RaisesRings (record r.whole { bell = bell.raised r.whole.bell w u m })) < weight k r
  raises_rings u m i may itself = by (rises (r.whole.task w)) refl
    where
      top : ℕ
      top = max (m + 1) (r.whole.bell.rings u)

      t : Crew
      t = next RaisesRings (record r.whole { bell = bell.raised r.whole.bell w u m })

      p : Parts
      p = record (parts r w) { ring = Counted u m }

      now : ℕ
      now = put r.whole.bell.rings u top w

      was : parts r w ≡ p
      was = rw (i) refl

      own : parts t w ≡ raised_parts u now p
      own = (let f = at_put r.whole.bell.ring w (bell.Ring.Raised u) in let h = self RaisesRings in rw (f, h) refl) ∙ ap (raised_parts u now) was

      rest : resting k now (r.whole.task w) (r.whole.bell.rest w) ≡ 0
      rest = rests_not k now (r.whole.task w) (r.whole.bell.rest w) may

      off : (v : ℕ) → (v == w) ≡ false → (v == u) ≡ false → weigh k (parts t v) ≤ weigh k (parts r v)
      off v a b =
          let f = off_put r.whole.bell.ring w (bell.Ring.Raised u) v a in
          let g = off_put r.whole.bell.rings u top v b in
          let h = other RaisesRings v a in
          let same : parts t v ≡ parts r v = rw (f, g, h) refl in
          let e = ap (weigh k) same in omega (arith, e)

      there : (u == w) ≡ false → weigh k (parts t u) ≤ weigh k (parts r u) + (5 * k + 32)
      there a =
          let f = off_put r.whole.bell.ring w (bell.Ring.Raised u) u a in
          let g = at_put r.whole.bell.rings u top in
          let h = other RaisesRings u a in
          let new : parts t u ≡ rung_parts top (parts r u) = rw (f, g, h) refl in
          let e = ap (weigh k) new in
          omega (arith, e, rested_more k (r.whole.bell.rings u) top (r.whole.task u) (r.whole.bell.rest u))

      by : (b : Bool) → rises (r.whole.task w) ≡ b → weight k t < weight k r
      by false e =
          let a = ap (weigh k) own in
          let b = ap (weigh k) was in
          let c = ap (λ x. ringing k x (Counted u m)) e in
          let d = ap (λ x. ringing k x (bell.Ring.Raised u)) e in
          total_two (λ v. weigh k (parts t v)) (λ v. weigh k (parts r v)) w u (5 * k + 32) k lt (λ v l. off v) there (omega (arith, a, b, c, d, rest))
      by true e =
          let same = same_number u w (itself e) in
          let a = ap (weigh k) own in
          let b = ap (weigh k) was in
          let c = ap (λ x. ringing k x (Counted u m)) e in
          let d = ap (λ x. ringing k x (bell.Ring.Raised u)) e in
          total_less (λ v. weigh k (parts t v)) (λ v. weigh k (parts r v)) w k lt
          (λ v l o. off v o (other_number v u (λ z. not_both (v == w) (ap (λ n. n == w) (z ∙ same) ∙ self_number w) o))) (omega (arith, a, b, c, d, rest))

  pub wakes_other : (u n : ℕ) (a : After) → r.whole.task w ≡ RingsFor a → r.whole.bell.ring w ≡ bell.Ring.Raised u → r.whole.bell.rest u ≡ bell.Rest.Asleep n
      → weight k (next WakesOther (record r.whole { bell = record r.whole.bell { ring = put r.whole.bell.ring w Idle; rest = put r.whole.bell.rest u bell.Rest.Up } })) < weight k r
  wakes_other u n a e i y = total_two (λ v. weigh k (parts t v)) (λ v. weigh k (parts r v)) w u (5 * k + 32) k lt (λ v l. off v) there (
      let a = ap (weigh k) own in let b = ap (weigh k) was in omega (arith, a, b))
    where
      t : Crew
      t = next WakesOther (record r.whole { bell = record r.whole.bell { ring = put r.whole.bell.ring w Idle; rest = put r.whole.bell.rest u bell.Rest.Up } })

      p : Parts
      p = record (parts r w) { task = RingsFor a; ring = bell.Ring.Raised u }

      was : parts r w ≡ p
      was = rw (e, i) refl

      now : bell.Rest
      now = put r.whole.bell.rest u bell.Rest.Up w

      own : parts t w ≡ woke_parts now p
      own = (let f = at_put r.whole.bell.ring w Idle in let h = self WakesOther in rw (f, h) refl) ∙ ap (woke_parts now) was

      off : (v : ℕ) → (v == w) ≡ false → (v == u) ≡ false → weigh k (parts t v) ≤ weigh k (parts r v)
      off v a b =
          let f = off_put r.whole.bell.ring w Idle v a in
          let g = off_put r.whole.bell.rest u bell.Rest.Up v b in
          let h = other WakesOther v a in
          let same : parts t v ≡ parts r v = rw (f, g, h) refl in
          let e = ap (weigh k) same in omega (arith, e)

      there : (u == w) ≡ false → weigh k (parts t u) ≤ weigh k (parts r u) + (5 * k + 32)
      there a =
          let f = off_put r.whole.bell.ring w Idle u a in
          let g = at_put r.whole.bell.rest u bell.Rest.Up in
          let h = other WakesOther u a in
          let new : parts t u ≡ woken_parts (parts r u) = rw (f, g, h) refl in
          let old : parts r u ≡ record (parts r u) { rest = bell.Rest.Asleep n } = rw (y) refl in
          let e = ap (weigh k) new in
          let b = ap (weigh k) old in
          omega (arith, e, b, woken_more k (r.whole.bell.rings u) n (r.whole.task u))

  pub raises_calls : r.whole.lobby.at w ≡ Taken
      → weight k (next (InLobby lobby.Does.Raises) (record r.whole { lobby = record (lobby.goes r.whole.lobby w Raised) { calls = r.whole.lobby.calls + 1 } })) < weight k r
  raises_calls e = total_paid (λ v. weigh k (parts t v)) (λ v. weigh k (parts r v)) w k lt (λ v l. off v) (
      let a = ap (weigh k) own in let b = ap (weigh k) was in omega (arith, a, b))
    where
      t : Crew
      t = next (InLobby lobby.Does.Raises) (record r.whole { lobby = record (lobby.goes r.whole.lobby w Raised) { calls = r.whole.lobby.calls + 1 } })

      p : Parts
      p = record (parts r w) { at = Taken }

      was : parts r w ≡ p
      was = rw (e) refl

      own : parts t w ≡ called_parts (r.whole.lobby.calls + 1) Raised p
      own = (let f = at_put r.whole.lobby.at w Raised in let h = self (InLobby lobby.Does.Raises) in rw (f, h) refl) ∙ ap (called_parts (r.whole.lobby.calls + 1) Raised) was

      off : (v : ℕ) → (v == w) ≡ false → weigh k (parts t v) ≤ weigh k (parts r v) + 5
      off v a =
          let f = off_put r.whole.lobby.at w Raised v a in
          let h = other (InLobby lobby.Does.Raises) v a in
          let new : parts t v ≡ called_parts (r.whole.lobby.calls + 1) (r.whole.lobby.at v) (parts r v) = rw (f, h) refl in
          let e = ap (weigh k) new in
          omega (arith, e, called_more k r.whole.lobby.calls (r.whole.lobby.at v))

  pub wakes : (u n : ℕ) → r.whole.lobby.at w ≡ Raised → r.whole.lobby.at u ≡ Asleep n
      → weight k (next (InLobby (lobby.Does.Wakes u)) (record r.whole { lobby = lobby.goes (lobby.goes r.whole.lobby w Out) u Comes })) < weight k r
  wakes u n e y = total_two (λ v. weigh k (parts t v)) (λ v. weigh k (parts r v)) w u 4 k lt (λ v l. off v) there (
      let a = ap (weigh k) own in let b = ap (weigh k) was in omega (arith, a, b))
    where
      d : Does
      d = InLobby (lobby.Does.Wakes u)

      t : Crew
      t = next (InLobby (lobby.Does.Wakes u)) (record r.whole { lobby = lobby.goes (lobby.goes r.whole.lobby w Out) u Comes })

      mid : ℕ → lobby.Stage
      mid = put r.whole.lobby.at w Out

      apart : (w == u) ≡ false
      apart = other_number w u (λ same. not_both (u == w) (ap (λ n. u == n) same ∙ self_number u) (is_other r.whole.lobby.at w u n e y))

      p : Parts
      p = record (parts r w) { at = Raised }

      was : parts r w ≡ p
      was = rw (e) refl

      own : parts t w ≡ walks_parts (lobby.Does.Wakes u) Out p
      own = (let f = off_put mid u Comes w apart ∙ at_put r.whole.lobby.at w Out in let h = self d in rw (f, h) refl) ∙ ap (walks_parts (lobby.Does.Wakes u) Out) was

      off : (v : ℕ) → (v == w) ≡ false → (v == u) ≡ false → weigh k (parts t v) ≤ weigh k (parts r v)
      off v a b =
          let f = off_put mid u Comes v b ∙ off_put r.whole.lobby.at w Out v a in
          let h = other d v a in
          let same : parts t v ≡ parts r v = rw (f, h) refl in
          let e = ap (weigh k) same in omega (arith, e)

      there : (u == w) ≡ false → weigh k (parts t u) ≤ weigh k (parts r u) + 4
      there a =
          let f = at_put mid u Comes in
          let h = other d u a in
          let new : parts t u ≡ called_parts r.whole.lobby.calls Comes (parts r u) = rw (f, h) refl in
          let old : parts r u ≡ record (parts r u) { at = Asleep n } = rw (y) refl in
          let z = ap (weigh k) new in
          let b = ap (weigh k) old in
          omega (arith, z, b)
