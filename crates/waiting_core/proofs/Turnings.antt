-- Whoever rests and may go on is roused, and where somebody rests somebody is up: what the turns keep.
use Rattle.std.proofs.Common.{◌≡◌, ◌==◌, ◌+◌, ◌<◌, ◌≤◌, ◌⊎◌, true, false, ℕ, Bool, max, refl, sym, ◌∙◌, ap, subst, arith, inl, inr}
use Rattle.std.proofs.Math.Nat.{le-max_left, le-max_right}
use Rattle.story_laws.proofs.Bools.{not_both, other_number, same_number, self_number}
use Rattle.waiting_core.specs.Put.{put}
use Rattle.waiting_core.specs.Lobby as lobby
use Rattle.waiting_core.specs.Bell as bell
use Rattle.waiting_core.specs.Bell.Ring.{Rings, Cleared, Counted, Raised}
use Rattle.waiting_core.specs.Whole.{Whole, Task, After, HasReason, keeps_desk, is_loading, is_hungry, does_next, made_due}
use Rattle.waiting_core.specs.Whole.After.{Turning, Working, Loading, Over}
use Rattle.waiting_core.specs.Whole.Task.{Away, LiesDown, Rests, Works, Looks, Sees, RingsFor}
use Rattle.waiting_core.proofs.Bells.{split}
use Rattle.waiting_core.proofs.Puts.{at_put, off_put, put_gives, put_says}

-- What the turns keep

-- rests, and wasn't rung for since it read its rings
abbrev pub is_still : ℕ → bell.Rest → Bool
is_still c (bell.Rest.Lies n) = n == c
is_still c (bell.Rest.Asleep n) = n == c
is_still c _ = false

-- somebody is to ring for it, or has cleared its place and will raise its rings
abbrev pub IsDue : Whole → ℕ → Type 0
IsDue s v = (w : ℕ) × ((s.due w v ≡ true) ⊎ bell.WillRaise v (s.bell.rings v) (s.bell.ring w))

abbrev pub IsRoused : Whole → ℕ → Type 0
IsRoused s v = (is_still (s.bell.rings v) (s.bell.rest v) ≡ false) ⊎ IsDue s v

abbrev pub is_up_after : Bool → After → Bool
is_up_after b Turning = true
is_up_after b Loading = true
is_up_after b Working = b
is_up_after b Over = false

-- will turn again, by its task and whether its query is active
abbrev pub is_up : Bool → Task → Bool
is_up b Away = false
is_up b Rests = false
is_up b Works = b
is_up b (RingsFor a) = is_up_after b a
is_up b _ = true

abbrev pub IsUp : Whole → ℕ → Type 0
IsUp s u = (is_up (s.active u) (s.task u) ≡ true) ⊎ ((s.task u ≡ Rests) × IsRoused s u)

pub record SomebodyUp (k : ℕ) (s : Whole) : Type 0 where
  pub worker : ℕ
  pub is_one : worker < k
  pub up : IsUp s worker

pub record AnotherUp (k w : ℕ) (s : Whole) : Type 0 where
  pub worker : ℕ
  pub is_one : worker < k
  pub other : (worker == w) ≡ false
  pub up : IsUp s worker

-- who has the desk will yet look at v's place
abbrev pub WillBeSeen : Whole → ℕ → Type 0
WillBeSeen s v = (w i : ℕ) × (b : Bool) × (a : After) × (s.task w ≡ Sees i b a) × (i ≤ v)

pub record Turned (k : ℕ) (s : Whole) : Type 0 where
  -- who rests and may go on is roused, or will be seen
  pub called : (v : ℕ) → s.task v ≡ Rests → is_hungry s v ≡ false → IsRoused s v ⊎ WillBeSeen s v
  -- where somebody rests, somebody is up
  pub up : (v : ℕ) → v < k → s.task v ≡ Rests → SomebodyUp k s
  -- who lies down has nothing to take, and a reason
  pub decided : (w : ℕ) → s.task w ≡ LiesDown → (is_hungry s w ≡ true) × HasReason k w s
  -- whoever rests in a place that was looked at is roused; after a load one at least, who has nothing to take
  pub looked : (w i : ℕ) (a : After) → s.task w ≡ Looks i a → (v : ℕ) → v < i → s.task v ≡ Rests → IsRoused s v
  pub seen : (w i : ℕ) (b : Bool) (a : After) → s.task w ≡ Sees i b a → (v : ℕ) → v < i → s.task v ≡ Rests → IsRoused s v ⊎ (b ≡ true)
  pub found : (w i : ℕ) (a : After) → s.task w ≡ Sees i true a → AnotherUp k w s

-- Who isn't seen is roused

pub unseen : (s : Whole) (v : ℕ) → bell.Keeps s.bell → s.bell.lies v ≡ false → IsRoused s v
unseen s v keeps off = by (is_still (s.bell.rings v) (s.bell.rest v)) refl
  where
    due : bell.IsSeen s.bell v → IsDue s v
    due (inl l) = absurd (not_both (s.bell.lies v) l off)
    due (inr x) = (x.0, inr x.1)

    late : (n m : ℕ) → n < m → (n == m) ≡ true → ⊥
    late n m lt e = omega (arith, lt, same_number n m e)

    kept : (y : bell.Rest) → bell.IsKept s.bell v y → is_still (s.bell.rings v) y ≡ true → IsDue s v
    kept bell.Rest.Up x e = absurd (not_both false e refl)
    kept (bell.Rest.Reads n) x e = absurd (not_both false e refl)
    kept (bell.Rest.Lies n) (inl x) e = due x.1
    kept (bell.Rest.Lies n) (inr x) e = absurd (late n (s.bell.rings v) x e)
    kept (bell.Rest.Asleep n) (inl x) e = due x.1
    kept (bell.Rest.Asleep n) (inr x) e = absurd (late n (s.bell.rings v) x.0 e)

    by : (b : Bool) → is_still (s.bell.rings v) (s.bell.rest v) ≡ b → IsRoused s v
    by false e = inl e
    by true e = inr (kept (s.bell.rest v) (keeps v) e)

-- Steps that leave each task, or go on to one that is up

pub record IsQuiet (r t : Whole) : Type 0 where
  pub rests : (v : ℕ) → t.task v ≡ Rests → r.task v ≡ Rests
  pub rested : (v : ℕ) → r.task v ≡ Rests → (t.task v ≡ Rests) ⊎ (is_up (t.active v) (t.task v) ≡ true)
  pub awake : (v : ℕ) → is_up (r.active v) (r.task v) ≡ true → is_up (t.active v) (t.task v) ≡ true
  pub loads : (v : ℕ) → is_loading (r.task v) ≡ true → is_loading (t.task v) ≡ true
  pub desk : (v : ℕ) → keeps_desk (t.task v) ≡ true → t.task v ≡ r.task v
  pub still : (v : ℕ) → keeps_desk (r.task v) ≡ true → t.task v ≡ r.task v
  pub active : (v : ℕ) → t.active v ≡ r.active v
  pub chunk : (v : ℕ) → t.has_chunk v ≡ r.has_chunk v
  pub roused : (v : ℕ) → r.task v ≡ Rests → IsRoused r v → IsRoused t v

pub keeps_quiet : (k : ℕ) (r t : Whole) → IsQuiet r t → Turned k r → Turned k t
keeps_quiet k r t q i = record {
  called = λ v e h. called v (i.called v (q.rests v e) (sym (hungry v) ∙ h)) (q.rests v e);
  up = λ v lt e. (let u = i.up v lt (q.rests v e) in record { worker = u.worker; is_one = u.is_one; up = up u.worker u.up });
  decided = λ w e. (let d = i.decided w (sym (q.desk w (ap keeps_desk e)) ∙ e) in (hungry w ∙ d.0, reason w d.1));
  looked = λ w j a e v lt f. q.roused v (q.rests v f) (i.looked w j a (sym (q.desk w (ap keeps_desk e)) ∙ e) v lt (q.rests v f));
  seen = λ w j b a e v lt f. seen v b (q.rests v f) (i.seen w j b a (sym (q.desk w (ap keeps_desk e)) ∙ e) v lt (q.rests v f));
  found = λ w j a e. (let u = i.found w j a (sym (q.desk w (ap keeps_desk e)) ∙ e) in record { worker = u.worker; is_one = u.is_one; other = u.other; up = up u.worker u.up });
}
  where
    hungry : (v : ℕ) → is_hungry t v ≡ is_hungry r v
    hungry v = let a = q.active v in let c = q.chunk v in rw (a, c) refl

    called : (v : ℕ) → IsRoused r v ⊎ WillBeSeen r v → r.task v ≡ Rests → IsRoused t v ⊎ WillBeSeen t v
    called v (inl x) e = inl (q.roused v e x)
    called v (inr x) e = inr (x.0, x.1, x.2, x.3, q.still x.0 (ap keeps_desk x.4) ∙ x.4, x.5)

    up : (v : ℕ) → IsUp r v → IsUp t v
    up v (inl e) = inl (q.awake v e)
    up v (inr x) = by (q.rested v x.0)
      where
        by : (t.task v ≡ Rests) ⊎ (is_up (t.active v) (t.task v) ≡ true) → IsUp t v
        by (inl e) = inr (e, q.roused v x.0 x.1)
        by (inr e) = inl e

    reason : (w : ℕ) → HasReason k w r → HasReason k w t
    reason w (inl x) = inl (record { worker = x.worker; is_one = x.is_one; loads = q.loads x.worker x.loads })
    reason w (inr x) = inr (record { worker = x.worker; is_one = x.is_one; other = x.other; active = q.active x.worker ∙ x.active; fed = q.chunk x.worker ∙ x.fed })

    seen : (v : ℕ) (b : Bool) → r.task v ≡ Rests → IsRoused r v ⊎ (b ≡ true) → IsRoused t v ⊎ (b ≡ true)
    seen v b e (inl x) = inl (q.roused v e x)
    seen v b e (inr f) = inr f

-- only the lobby, the bell and its count changed
pub same_tasks : (k : ℕ) (r : Whole) (l : lobby.Lobby) (b : bell.Bell) (n : ℕ) (adds owes : ℕ → Bool) (d : ℕ → ℕ → Bool)
    → ((v : ℕ) → r.task v ≡ Rests → IsRoused r v → IsRoused (record r { bell = b; due = d }) v) → Turned k r
    → Turned k (record r { lobby = l; bell = b; asleep = n; adds = adds; owes = owes; due = d })
same_tasks k r l b n adds owes d roused i = keeps_quiet k r (record r { lobby = l; bell = b; asleep = n; adds = adds; owes = owes; due = d }) (record {
  rests = λ v e. e;
  rested = λ v e. inl e;
  awake = λ v e. e;
  loads = λ v e. e;
  desk = λ v e. refl;
  still = λ v e. refl;
  active = λ v. refl;
  chunk = λ v. refl;
  roused = roused;
}) i

-- w goes on to a task that is up where it was, without the desk
pub goes_on_up : (k w : ℕ) (r : Whole) (b : bell.Bell) (owes : ℕ → Bool) (o x : Task) → r.task w ≡ o → keeps_desk o ≡ false → keeps_desk x ≡ false → (x ≡ Rests → ⊥)
    → (is_up (r.active w) o ≡ true → is_up (r.active w) x ≡ true) → (o ≡ Rests → is_up (r.active w) x ≡ true) → (is_loading o ≡ true → is_loading x ≡ true)
    → ((v : ℕ) → IsRoused r v → IsRoused (record r { bell = b }) v) → Turned k r → Turned k (record (does_next r w x) { bell = b; owes = owes })
goes_on_up k w r b owes o x e ko kx apart awake rested loads roused i = keeps_quiet k r t (record {
  rests = λ v f. rests v f (v == w) refl;
  rested = λ v f. rest v f (v == w) refl;
  awake = λ v f. wake v f (v == w) refl;
  loads = λ v f. load v f (v == w) refl;
  desk = λ v f. same v (v == w) refl (inl f);
  still = λ v f. same v (v == w) refl (inr f);
  active = λ v. refl;
  chunk = λ v. refl;
  roused = λ v f g. roused v g;
}) i
  where
    t : Whole
    t = record (does_next r w x) { bell = b; owes = owes }

    here : (v : ℕ) → (v == w) ≡ true → t.task v ≡ x
    here v at = ap t.task (same_number v w at) ∙ at_put r.task w x

    was : (v : ℕ) → (v == w) ≡ true → r.task v ≡ o
    was v at = ap r.task (same_number v w at) ∙ e

    act : (v : ℕ) → (v == w) ≡ true → r.active v ≡ r.active w
    act v at = ap r.active (same_number v w at)

    off : (v : ℕ) → (v == w) ≡ false → t.task v ≡ r.task v
    off v at = off_put r.task w x v at

    rests : (v : ℕ) → t.task v ≡ Rests → (c : Bool) → (v == w) ≡ c → r.task v ≡ Rests
    rests v f true at = absurd (apart (sym (here v at) ∙ f))
    rests v f false at = sym (off v at) ∙ f

    up_here : (v : ℕ) → (v == w) ≡ true → is_up (r.active w) x ≡ true → is_up (r.active v) (t.task v) ≡ true
    up_here v at g = let a = act v at in let c = here v at in rw (a, c) g

    rest : (v : ℕ) → r.task v ≡ Rests → (c : Bool) → (v == w) ≡ c → (t.task v ≡ Rests) ⊎ (is_up (r.active v) (t.task v) ≡ true)
    rest v f true at = inr (up_here v at (rested (sym (was v at) ∙ f)))
    rest v f false at = inl (off v at ∙ f)

    wake : (v : ℕ) → is_up (r.active v) (r.task v) ≡ true → (c : Bool) → (v == w) ≡ c → is_up (r.active v) (t.task v) ≡ true
    wake v f true at = up_here v at (awake (ap (λ a. is_up a o) (sym (act v at)) ∙ (ap (is_up (r.active v)) (sym (was v at)) ∙ f)))
    wake v f false at = ap (is_up (r.active v)) (off v at) ∙ f

    load : (v : ℕ) → is_loading (r.task v) ≡ true → (c : Bool) → (v == w) ≡ c → is_loading (t.task v) ≡ true
    load v f true at = ap is_loading (here v at) ∙ loads (ap is_loading (sym (was v at)) ∙ f)
    load v f false at = ap is_loading (off v at) ∙ f

    same : (v : ℕ) (c : Bool) → (v == w) ≡ c → (keeps_desk (t.task v) ≡ true) ⊎ (keeps_desk (r.task v) ≡ true) → t.task v ≡ r.task v
    same v true at (inl f) = absurd (not_both (keeps_desk x) (ap keeps_desk (sym (here v at)) ∙ f) kx)
    same v true at (inr f) = absurd (not_both (keeps_desk o) (ap keeps_desk (sym (was v at)) ∙ f) ko)
    same v false at f = off v at

-- What the bell's steps do to whom is roused

-- w rests otherwise
pub rests_as : (r : Whole) (w : ℕ) (y : bell.Rest) (v : ℕ) → (is_still (r.bell.rings v) (r.bell.rest w) ≡ false → is_still (r.bell.rings v) y ≡ false)
    → IsRoused r v → IsRoused (record r { bell = record r.bell { rest = put r.bell.rest w y } }) v
rests_as r w y v own (inl e) = inl (put_gives (is_still (r.bell.rings v)) false r.bell.rest w y v own e)
rests_as r w y v own (inr x) = inr x

-- w is at another ring, at which it raises what it was to raise
pub turns_ring : (r : Whole) (w : ℕ) (o g : bell.Ring) (v : ℕ) → r.bell.ring w ≡ o → (bell.WillRaise v (r.bell.rings v) o → bell.WillRaise v (r.bell.rings v) g)
    → IsRoused r v → IsRoused (record r { bell = record r.bell { ring = put r.bell.ring w g } }) v
turns_ring r w o g v e more (inl f) = inl f
turns_ring r w o g v e more (inr (x, inl f)) = inr (x, inl f)
turns_ring r w o g v e more (inr (x, inr f)) = inr (x, inr (put_says (bell.WillRaise v (r.bell.rings v)) r.bell.ring w g x (λ z. more (subst (bell.WillRaise v (r.bell.rings v)) e z)) f))

pub clears : (r : Whole) (w u : ℕ) (v : ℕ) → r.bell.ring w ≡ Rings u → IsRoused r v → IsRoused (record r { bell = bell.cleared r.bell w u; due = made_due r w u false }) v
clears r w u v e (inl f) = inl f
clears r w u v e (inr (x, inr f)) = inr (x, inr (put_says (bell.WillRaise v (r.bell.rings v)) r.bell.ring w (Cleared u) x (λ z. absurd (subst (bell.WillRaise v (r.bell.rings v)) e z)) f))
clears r w u v e (inr (x, inl f)) = pick (x == w) refl (v == u) refl
  where
    t : Whole
    t = record r { bell = bell.cleared r.bell w u; due = made_due r w u false }

    pick : (b : Bool) → (x == w) ≡ b → (c : Bool) → (v == u) ≡ c → IsRoused t v
    pick b at true same = inr (w, inr (subst (bell.WillRaise v (r.bell.rings v)) (sym (at_put r.bell.ring w (Cleared u))) (sym (same_number v u same))))
    pick true at false other = inr (x, inl (ap (λ (d : ℕ → Bool). d v) (ap (put r.due w (put (r.due w) u false)) (same_number x w at) ∙ at_put r.due w (put (r.due w) u false)) ∙ (off_put (r.due w) u false v other ∙ (ap (λ n. r.due n v) (sym (same_number x w at)) ∙ f))))
    pick false at false other = inr (x, inl (ap (λ (d : ℕ → Bool). d v) (off_put r.due w (put (r.due w) u false) x at) ∙ f))

pub raises : (r : Whole) (w u m : ℕ) (v : ℕ) → bell.Keeps r.bell → r.bell.ring w ≡ Counted u m → IsRoused r v → IsRoused (record r { bell = bell.raised r.bell w u m }) v
raises r w u m v keeps e x = pick (v == u) refl
  where
    t : Whole
    t = record r { bell = bell.raised r.bell w u m }

    top : ℕ
    top = max (m + 1) (r.bell.rings u)

    here : t.bell.rings u ≡ top
    here = at_put r.bell.rings u top

    -- where y's rings are as they were, and w wasn't to raise them
    stays_roused : (y : ℕ) → t.bell.rings y ≡ r.bell.rings y → (u ≡ y → r.bell.rings y ≤ m → ⊥) → IsRoused r y → IsRoused t y
    stays_roused y same other (inl f) = inl (ap (λ n. is_still n (r.bell.rest y)) same ∙ f)
    stays_roused y same other (inr (z, inl f)) = inr (z, inl f)
    stays_roused y same other (inr (z, inr f)) =
        inr (z, inr (subst (λ n. bell.WillRaise y n (t.bell.ring z)) (sym same) (put_says (bell.WillRaise y (r.bell.rings y)) r.bell.ring w (Raised u) z (λ c. (let d = subst (bell.WillRaise y (r.bell.rings y)) e c in absurd (other d.0 d.1))) f)))

    over : (n : ℕ) → n ≤ r.bell.rings u → r.bell.rings u < top → (n == top) ≡ false
    over n le lt = other_number n top (λ same. omega (arith, le, lt, same))

    kept : r.bell.rings u < top → (y : bell.Rest) → bell.IsKept r.bell u y → is_still top y ≡ false
    kept lt bell.Rest.Up k = refl
    kept lt (bell.Rest.Reads n) k = refl
    kept lt (bell.Rest.Lies n) (inl k) = over n (omega (arith, k.0)) lt
    kept lt (bell.Rest.Lies n) (inr k) = over n (omega (arith, k)) lt
    kept lt (bell.Rest.Asleep n) (inl k) = over n (omega (arith, k.0)) lt
    kept lt (bell.Rest.Asleep n) (inr k) = over n (omega (arith, k.0)) lt

    own : (r.bell.rings u ≡ top) ⊎ (r.bell.rings u < top) → IsRoused r u → IsRoused t u
    own (inl same) z = stays_roused u (here ∙ sym same) (λ f le. omega (arith, le, same, le-max_left (m + 1) (r.bell.rings u))) z
    own (inr lt) z = inl (ap (λ n. is_still n (r.bell.rest u)) here ∙ kept lt (r.bell.rest u) (keeps u))

    pick : (b : Bool) → (v == u) ≡ b → IsRoused t v
    pick true at = subst (IsRoused t) (sym (same_number v u at)) (own (split (r.bell.rings u) top (le-max_right (m + 1) (r.bell.rings u))) (subst (IsRoused r) (same_number v u at) x))
    pick false at = stays_roused v (off_put r.bell.rings u top v at) (λ f le. not_both (v == u) (ap (λ n. v == n) f ∙ self_number v) at) x
