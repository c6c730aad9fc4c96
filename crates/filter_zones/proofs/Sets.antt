-- A set of numbers is given by its members.
use Rattle.std.proofs.Common.{◌≡◌, ◌<◌, ◌+◌, ℕ, Bool, true, false, List, [], ◌∷◌, refl, sym, ap, subst, ◌∙◌, inl, inr, arith, eq-eqb}
use Rattle.std.specs.Prelude.{◌⊎◌, ◌==◌, ◌&&◌, ◌||◌, nat_lt}
use Rattle.std.proofs.lemmas.Bool.{cases_order, cases_eq, false≢true, ne_eqb, or_left}
use Rattle.table_sets.specs.Sets.{has, numbers_below, Rising, AreMembers}
use Rattle.table_sets.proofs.Members.{has-numbers, numbers-rise}

below_start : (start : ℕ) (xs : List ℕ) (end c : ℕ) → Rising start xs end → c < start → has xs c ≡ false
below_start start [] end c rises low = refl
below_start start (x ∷ xs) end c rises low =
    let apart : (x == c) ≡ false = ne_eqb x c (λ e. omega (arith, e, rises.0)) in
    let rest : has xs c ≡ false = below_start (x + 1) xs end c rises.1 (omega (arith, rises.0)) in
    rw (apart, rest) refl

has_head : (x : ℕ) (xs : List ℕ) → has (x ∷ xs) x ≡ true
has_head x xs = or_left (x == x) (has xs x) (eq-eqb x x refl)

tails : (x : ℕ) (xs ys : List ℕ) (e f : ℕ) → Rising (x + 1) xs e → Rising (x + 1) ys f → ((c : ℕ) → has (x ∷ xs) c ≡ has (x ∷ ys) c) → (c : ℕ) → has xs c ≡ has ys c
tails x xs ys e f r s same c = elim (cases_eq x c) [
  | inl here ↦ below_start (x + 1) xs e c r (omega (arith, here)) ∙ sym (below_start (x + 1) ys f c s (omega (arith, here)))
  | inr apart ↦
      let other : (x == c) ≡ false = ne_eqb x c apart in
      sym (ap (λ b. b || has xs c) other) ∙ same c ∙ ap (λ b. b || has ys c) other
]

-- two rising lists with the same members are the same
pub rising_same : (xs ys : List ℕ) (start begin e f : ℕ) → Rising start xs e → Rising begin ys f → ((c : ℕ) → has xs c ≡ has ys c) → xs ≡ ys
rising_same [] [] start begin e f r s same = refl
rising_same [] (y ∷ ys) start begin e f r s same = absurd (false≢true (same y ∙ has_head y ys))
rising_same (x ∷ xs) [] start begin e f r s same = absurd (false≢true (sym (same x) ∙ has_head x xs))
rising_same (x ∷ xs) (y ∷ ys) start begin e f r s same = by (cases_order x y) (λ t h. rising_same xs ys (x + 1) (x + 1) e f r.1 t h) where
  by : (x ≡ y) ⊎ ((x < y) ⊎ (y < x)) → (Rising (x + 1) ys f → ((c : ℕ) → has xs c ≡ has ys c) → xs ≡ ys) → (x ∷ xs) ≡ (y ∷ ys)
  by (inl here) rest =
      let Above : ℕ → Type 0 = λ c. Rising (c + 1) ys f in
      let above : Rising (x + 1) ys f = subst Above (sym here) s.1 in
      let alike : (c : ℕ) → has (x ∷ xs) c ≡ has (x ∷ ys) c = λ c. same c ∙ ap (λ h. has (h ∷ ys) c) (sym here) in
      ap (λ h. h ∷ xs) here ∙ ap (λ cs. y ∷ cs) (rest above (tails x xs ys e f r.1 above alike))
  by (inr (inl less)) rest = absurd (false≢true (sym (below_start y (y ∷ ys) f x (omega arith, s.1) less) ∙ sym (same x) ∙ has_head x xs))
  by (inr (inr more)) rest = absurd (false≢true (sym (below_start x (x ∷ xs) e y (omega arith, r.1) more) ∙ same y ∙ has_head y ys))

-- a set that has exactly the numbers below n that pass is the list of these
pub members_are : (members : List ℕ) (end n : ℕ) (p : ℕ → Bool) → AreMembers end members → ((c : ℕ) → has members c ≡ (nat_lt c n && p c)) → members ≡ numbers_below p n
members_are members end n p rise each = rising_same members (numbers_below p n) 0 0 end n rise (numbers-rise p n) (λ c. each c ∙ sym (has-numbers p n c))
