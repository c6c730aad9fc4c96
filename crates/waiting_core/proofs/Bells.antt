-- Each step keeps what the bell keeps.
use Rattle.std.proofs.Common.{◌≡◌, ◌==◌, ◌+◌, ◌<◌, ◌≤◌, ◌⊎◌, true, false, ℕ, Bool, max, if◌then◌else◌, refl, sym, ◌∙◌, ap, subst, arith, inl, inr}
use Rattle.std.proofs.Math.Nat.{le-max_left, le-max_right}
use Rattle.std.proofs.lemmas.Bool.Decides.{nat_tests}
use Rattle.story_laws.proofs.Bools.{not_both, other_number, same_number, self_number}
use Rattle.waiting_core.specs.Put.{put}
use Rattle.waiting_core.specs.Bell.{Rest, Ring, Bell, Keeps, StepsKeep, SleepersAreSeen, IsSeen, IsKept, WillRaise, cleared, is_up, own_ring, raised}
use Rattle.waiting_core.specs.Bell.Rest.{Up, Reads, Lies, Asleep}
use Rattle.waiting_core.specs.Bell.Ring.{Idle, Rings, Cleared, Counted, Raised}
use Rattle.waiting_core.specs.Bell.Does.{ReadsRings, LiesDown, FallsAsleep, StaysUp, Wakes, GetsUp, IsToRing, Clears, Counts, Raises, WakesOther, WakesNobody, HasRisen}
use Rattle.waiting_core.proofs.Puts.{at_put, off_put, put_says}

-- what is kept of v, where only what another thing says of it changed
rest_of : (r t : Bell) (v : ℕ) (x : Rest) → ((n : ℕ) → IsSeen r v → (x ≡ Lies n) ⊎ (x ≡ Asleep n) → IsSeen t v) → t.rings v ≡ r.rings v → (((w : ℕ) × (r.ring w ≡ Raised v)) → ((n : ℕ) × (x ≡ Asleep n)) → ((w : ℕ) × (t.ring w ≡ Raised v)))
    → IsKept r v x → IsKept t v x
rest_of r t v Up seen e raised k = tt
rest_of r t v (Reads n) seen e raised k = omega (arith, k, e)
rest_of r t v (Lies n) seen e raised (inl k) = inl (k.0 ∙ sym e, seen n k.1 (inl refl))
rest_of r t v (Lies n) seen e raised (inr k) = inr (omega (arith, k, e))
rest_of r t v (Asleep n) seen e raised (inl k) = inl (k.0 ∙ sym e, seen n k.1 (inr refl))
rest_of r t v (Asleep n) seen e raised (inr k) = inr (omega (arith, k.0, e), raised k.1 (n, refl))

-- the worker w itself rests as x now, and nothing else changed
rests : (r t : Bell) (w : ℕ) (x : Rest) → t ≡ record r { rest = put r.rest w x } → Keeps r → IsKept r w x → Keeps t
rests r t w x e i new = subst Keeps (sym e) (λ v. pick v (v == w) refl)
  where
    s : Bell
    s = record r { rest = put r.rest w x }

    same : (v : ℕ) (y : Rest) → IsKept r v y → IsKept s v y
    same v y k = rest_of r s v y (λ n seen o. seen) refl (λ raised o. raised) k

    pick : (v : ℕ) (b : Bool) → (v == w) ≡ b → IsKept s v (if b then x else r.rest v)
    pick v true at = same v x (subst (λ u. IsKept r u x) (sym (same_number v w at)) new)
    pick v false at = same v (r.rest v) (i v)

pub split : (n m : ℕ) → n ≤ m → (n ≡ m) ⊎ (n < m)
split n m le = pick (n == m) refl
  where
    pick : (b : Bool) → (n == m) ≡ b → (n ≡ m) ⊎ (n < m)
    pick true e = inl (same_number n m e)
    pick false e = inr (grind (arith, nat_tests))

-- another's ring stays
pub stays : (f : ℕ → Ring) (w : ℕ) (a b c : Ring) (x : ℕ) → f w ≡ a → f x ≡ c → (a ≡ c → ⊥) → put f w b x ≡ c
stays f w a b c x at e ne = off_put f w b x (other_number x w (λ same. ne (sym at ∙ ap f (sym same) ∙ e))) ∙ e

-- Of each worker

lies_down : (r t : Bell) (w n : ℕ) → r.rest w ≡ Reads n → t ≡ record r { rest = put r.rest w (Lies n); lies = put r.lies w true } → Keeps r → Keeps t
lies_down r t w n e is i = subst Keeps (sym is) (λ v. pick v (v == w) refl)
  where
    s : Bell
    s = record r { rest = put r.rest w (Lies n); lies = put r.lies w true }

    seen : (v : ℕ) → IsSeen r v → IsSeen s v
    seen v (inr x) = inr x
    seen v (inl l) = inl (more (v == w))
      where
        more : (b : Bool) → (if b then true else r.lies v) ≡ true
        more true = refl
        more false = l

    before : n ≤ r.rings w
    before = subst (IsKept r w) e (i w)

    new : (n ≡ r.rings w) ⊎ (n < r.rings w) → IsKept s w (Lies n)
    new (inl at) = inl (at, inl (at_put r.lies w true))
    new (inr lt) = inr lt

    pick : (v : ℕ) (b : Bool) → (v == w) ≡ b → IsKept s v (if b then Lies n else r.rest v)
    pick v true at = subst (λ u. IsKept s u (Lies n)) (sym (same_number v w at)) (new (split n (r.rings w) before))
    pick v false at = rest_of r s v (r.rest v) (λ m k o. seen v k) refl (λ raised o. raised) (i v)

falls_asleep : (r : Bell) (w n : ℕ) → n ≡ r.rings w → IsKept r w (Lies n) → IsKept r w (Asleep n)
falls_asleep r w n e (inl k) = inl k
falls_asleep r w n e (inr lt) = absurd (omega (arith, e, lt))

gets_up : (r t : Bell) (w : ℕ) → r.rest w ≡ Up → r.ring w ≡ Idle → t ≡ is_up r w → Keeps r → Keeps t
gets_up r t w e idle is i = subst Keeps (sym is) (λ v. pick v (v == w) refl)
  where
    pick : (v : ℕ) (b : Bool) → (v == w) ≡ b → IsKept (is_up r w) v (r.rest v)
    pick v true at = subst (IsKept (is_up r w) v) (sym (ap r.rest (same_number v w at) ∙ e)) tt
    pick v false at = rest_of r (is_up r w) v (r.rest v) (λ m k o. seen k) refl (λ x o. (x.0, stays r.ring w Idle (own_ring r w) (Raised v) x.0 idle x.1 (λ f. cc))) (i v)
      where
        seen : IsSeen r v → IsSeen (is_up r w) v
        seen (inl l) = inl (off_put r.lies w false v at ∙ l)
        seen (inr x) = inr (x.0, put_says (WillRaise v (r.rings v)) r.ring w (own_ring r w) x.0 (λ z. absurd (subst (WillRaise v (r.rings v)) idle z)) x.1)

-- a worker turns to another ring, at which it raises what it was to raise
turns_to : (r t : Bell) (w : ℕ) (a b : Ring) → r.ring w ≡ a → ((v : ℕ) → WillRaise v (r.rings v) a → WillRaise v (r.rings v) b) → ((v : ℕ) → a ≡ Raised v → ⊥) → t ≡ record r { ring = put r.ring w b } → Keeps r → Keeps t
turns_to r t w a b e more nr is i = subst Keeps (sym is) (λ v. rest_of r s v (r.rest v) (λ m k o. seen v k) refl (λ x o. (x.0, stays r.ring w a b (Raised v) x.0 e x.1 (nr v))) (i v))
  where
    s : Bell
    s = record r { ring = put r.ring w b }

    seen : (v : ℕ) → IsSeen r v → IsSeen s v
    seen v (inl l) = inl l
    seen v (inr x) = inr (x.0, put_says (WillRaise v (r.rings v)) r.ring w b x.0 (λ z. more v (subst (WillRaise v (r.rings v)) e z)) x.1)

clears : (r t : Bell) (w v : ℕ) → r.ring w ≡ Rings v → t ≡ cleared r w v → Keeps r → Keeps t
clears r t w v e is i = subst Keeps (sym is) (λ u. rest_of r (cleared r w v) u (r.rest u) (λ m k o. seen u k) refl (λ x o. (x.0, stays r.ring w (Rings v) (Cleared v) (Raised u) x.0 e x.1 (λ f. cc))) (i u))
  where
    seen : (u : ℕ) → IsSeen r u → IsSeen (cleared r w v) u
    seen u (inr x) = inr (x.0, put_says (WillRaise u (r.rings u)) r.ring w (Cleared v) x.0 (λ z. absurd (subst (WillRaise u (r.rings u)) e z)) x.1)
    seen u (inl l) = pick (u == v) refl
      where
        pick : (b : Bool) → (u == v) ≡ b → IsSeen (cleared r w v) u
        pick true at = inr (w, subst (WillRaise u (r.rings u)) (sym (at_put r.ring w (Cleared v))) (sym (same_number u v at)))
        pick false at = inl (off_put r.lies v false u at ∙ l)

raises : (r t : Bell) (w v m : ℕ) → r.ring w ≡ Counted v m → t ≡ raised r w v m → Keeps r → Keeps t
raises r t w v m e is i = subst Keeps (sym is) (λ u. pick u (u == v) refl)
  where
    s : Bell
    s = raised r w v m

    top : ℕ
    top = max (m + 1) (r.rings v)

    here : s.rings v ≡ top
    here = at_put r.rings v top

    no_less : r.rings v ≤ top
    no_less = le-max_right (m + 1) (r.rings v)

    -- where u's rings are as they were, and w wasn't to raise them
    seen : (u : ℕ) → s.rings u ≡ r.rings u → (v ≡ u → r.rings u ≤ m → ⊥) → IsSeen r u → IsSeen s u
    seen u same other (inl l) = inl l
    seen u same other (inr x) = inr (x.0, subst (λ n. WillRaise u n (s.ring x.0)) (sym same) (put_says (WillRaise u (r.rings u)) r.ring w (Raised v) x.0 (λ z. (let c = subst (WillRaise u (r.rings u)) e z in absurd (other c.0 c.1))) x.1))

    more : (n : ℕ) → n ≡ r.rings v → IsSeen r v → ((n ≡ s.rings v) × IsSeen s v) ⊎ (n < s.rings v)
    more n at z = by (split n top (omega (arith, at, no_less)))
      where
        by : (n ≡ top) ⊎ (n < top) → ((n ≡ s.rings v) × IsSeen s v) ⊎ (n < s.rings v)
        by (inr lt) = inr (omega (arith, lt, here))
        by (inl same) = inl (same ∙ sym here, seen v (here ∙ (sym same ∙ at)) (λ f le. omega (arith, le, same, at, le-max_left (m + 1) (r.rings v))) z)

    own : (x : Rest) → IsKept r v x → IsKept s v x
    own Up k = tt
    own (Reads n) k = omega (arith, k, here, no_less)
    own (Lies n) (inl k) = more n k.0 k.1
    own (Lies n) (inr k) = inr (omega (arith, k, here, no_less))
    own (Asleep n) (inl k) = elim (more n k.0 k.1) [
      | inl x ↦ inl x
      | inr lt ↦ inr (lt, (w, at_put r.ring w (Raised v)))
    ]
    own (Asleep n) (inr k) = inr (omega (arith, k.0, here, no_less), (w, at_put r.ring w (Raised v)))

    pick : (u : ℕ) (b : Bool) → (u == v) ≡ b → IsKept s u (r.rest u)
    pick u true at = subst (λ x. IsKept s x (r.rest x)) (sym (same_number u v at)) (own (r.rest v) (i v))
    pick u false at = rest_of r s u (r.rest u) (λ n k o. seen u same (λ f le. not_both (u == v) (ap (λ k. u == k) f ∙ self_number u) at) k) same (λ x o. (x.0, stays r.ring w (Counted v m) (Raised v) (Raised u) x.0 e x.1 (λ f. cc))) (i u)
      where
        same : s.rings u ≡ r.rings u
        same = off_put r.rings v top u at

-- a ring is over: its worker v doesn't sleep, as it rests now
ends : (r t : Bell) (w v : ℕ) (x : Rest) → r.ring w ≡ Raised v → ((n : ℕ) → x ≡ Asleep n → ⊥) → IsKept r v x → t ≡ record r { ring = put r.ring w Idle; rest = put r.rest v x } → Keeps r → Keeps t
ends r t w v x e up new is i = subst Keeps (sym is) (λ u. pick u (u == v) refl)
  where
    s : Bell
    s = record r { ring = put r.ring w Idle; rest = put r.rest v x }

    seen : (u : ℕ) → IsSeen r u → IsSeen s u
    seen u (inl l) = inl l
    seen u (inr k) = inr (k.0, put_says (WillRaise u (r.rings u)) r.ring w Idle k.0 (λ z. absurd (subst (WillRaise u (r.rings u)) e z)) k.1)

    pick : (u : ℕ) (b : Bool) → (u == v) ≡ b → IsKept s u (if b then x else r.rest u)
    pick u true at = subst (λ k. IsKept s k x) (sym (same_number u v at)) (rest_of r s v x (λ m k o. seen v k) refl (λ k o. absurd (up o.0 o.1)) new)
    pick u false at = rest_of r s u (r.rest u) (λ m k o. seen u k) refl (λ k o. (k.0, stays r.ring w (Raised v) Idle (Raised u) k.0 e k.1 other)) (i u)
      where
        other : Raised v ≡ Raised u → ⊥
        other f = let same : v ≡ u = cc in not_both (u == v) (ap (λ k. u == k) same ∙ self_number u) at

ends_quiet : (r t : Bell) (w v : ℕ) → r.ring w ≡ Raised v → ((n : ℕ) → r.rest v ≡ Asleep n → ⊥) → t ≡ record r { ring = put r.ring w Idle } → Keeps r → Keeps t
ends_quiet r t w v e up is i = subst Keeps (sym is) (λ u. rest_of r s u (r.rest u) (λ m k o. seen u k) refl (λ k o. (
  k.0,
  off_put r.ring w Idle k.0 (other_number k.0 w (λ same. (
      let at : Raised v ≡ Raised u = sym e ∙ ap r.ring (sym same) ∙ k.1 in
      let same : v ≡ u = cc in up o.0 (ap r.rest same ∙ o.1)))) ∙ k.1,
)) (i u))
  where
    s : Bell
    s = record r { ring = put r.ring w Idle }

    seen : (u : ℕ) → IsSeen r u → IsSeen s u
    seen u (inl l) = inl l
    seen u (inr k) = inr (k.0, put_says (WillRaise u (r.rings u)) r.ring w Idle k.0 (λ z. absurd (subst (WillRaise u (r.rings u)) e z)) k.1)

pub steps_keep : StepsKeep
steps_keep w ReadsRings r t s i = rests r t w (Reads (r.rings w)) s.1 i (omega arith)
steps_keep w LiesDown r t s i = lies_down r t w s.0 s.1 s.2 i
steps_keep w FallsAsleep r t s i = rests r t w (Asleep s.0) s.3 i (falls_asleep r w s.0 s.2 (subst (IsKept r w) s.1 (i w)))
steps_keep w StaysUp r t s i = rests r t w Up s.2 i tt
steps_keep w Wakes r t s i = rests r t w Up s.2 i tt
steps_keep w GetsUp r t s i = gets_up r t w s.0 s.1 s.2 i
steps_keep w (IsToRing v) r t s i = turns_to r t w Idle (Rings v) s.0 (λ u z. z) (λ u f. cc) s.1 i
steps_keep w Clears r t s i = clears r t w s.0 s.1 s.2 i
steps_keep w Counts r t s i = turns_to r t w (Cleared s.0) (Counted s.0 (r.rings s.0)) s.1 (λ u z. (z, omega (arith, ap r.rings z))) (λ u f. cc) s.2 i
steps_keep w Raises r t s i = raises r t w s.0 s.1 s.2 s.3 i
steps_keep w WakesOther r t s i = ends r t w s.0 Up s.2 (λ n f. cc) tt s.4 i
steps_keep w WakesNobody r t s i = ends_quiet r t w s.0 s.1 s.2 s.3 i
steps_keep w HasRisen r t s i = elim s.1 [
  | inl e ↦ turns_to r t w Idle Idle e (λ u z. z) (λ u f. cc) s.2 i
  | inr e ↦ ends_quiet r t w w e s.0 s.2 i
]

pub sleepers_are_seen : SleepersAreSeen
sleepers_are_seen r v n i e = by (subst (IsKept r v) e (i v))
  where
    by : IsKept r v (Asleep n) → (r.lies v ≡ true) ⊎ ((w : ℕ) × (WillRaise v (r.rings v) (r.ring w) ⊎ (r.ring w ≡ Raised v)))
    by (inl k) = elim k.1 [
      | inl l ↦ inl l
      | inr x ↦ inr (x.0, inl x.1)
    ]
    by (inr k) = let x = k.1 in inr (x.0, inr x.1)
