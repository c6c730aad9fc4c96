-- The members of a set, found by their numbers.
use Rattle.std.proofs.Common.{◌≡◌, ◌∙◌, ◌≤◌, ◌<◌, ◌+◌, ◌++◌, ℕ, zero, suc, Bool, true, false, if◌then◌else◌, List, [], ◌∷◌, refl, sym, ap₂, add-one, arith, inl, inr}
use Rattle.std.specs.Prelude.{◌&&◌, ◌||◌, nat_lt}
use Rattle.std.specs.List.{AllByRecursion}
use Rattle.std.proofs.lemmas.Bool.{cases_lt, lt-ltb, le-ltb, ne_eqb}
use Rattle.table_sets.specs.Sets.{has, numbers_below, AreMembers, Rising}
use Rattle.filter_zones.proofs.Sets.{members_are}

pub begun : (p : ℕ → Bool) → [] ≡ numbers_below p 0
unfolding numbers_below
begun p = refl

-- with one number more
pub passes : (p : ℕ → Bool) (n : ℕ) → p n ≡ true → numbers_below p n ++ n ∷ [] ≡ numbers_below p (n + 1)
unfolding numbers_below
passes p n so = rw (add-one, so) refl

pub fails : (p : ℕ → Bool) (n : ℕ) → p n ≡ false → numbers_below p n ≡ numbers_below p (n + 1)
unfolding numbers_below
fails p n so = rw (add-one, so) refl

end_above : (start end : ℕ) (members : List ℕ) → Rising start members end → start ≤ end
end_above start end [] up = up
end_above start end (x ∷ xs) up = let rest = end_above (x + 1) end xs up.1 in omega (arith, rest, up.0)

-- a number from the end on is no member
past_end : (start end c : ℕ) (members : List ℕ) → Rising start members end → end ≤ c → has members c ≡ false
past_end start end c [] up past = refl
past_end start end c (x ∷ xs) up past =
    let rest = end_above (x + 1) end xs up.1 in
    rw (ne_eqb x c (λ e. omega (arith, e, past, rest))) (past_end (x + 1) end c xs up.1 past)

pub found : (members : List ℕ) (end : ℕ) → AreMembers end members → numbers_below (has members) end ≡ members
found members end up = sym (members_are members end end (has members) up within)
  where
    within : (c : ℕ) → has members c ≡ (nat_lt c end && has members c)
    within c = elim (cases_lt c end) [
      | inl low ↦ rw (lt-ltb c end low) refl
      | inr past ↦ rw (le-ltb c end past) (past_end 0 end c members up past)
    ]

pub below_end : (start end : ℕ) (members : List ℕ) → Rising start members end → AllByRecursion (λ (x : ℕ). x < end) members
below_end start end [] up = tt
below_end start end (x ∷ xs) up = (let rest = end_above (x + 1) end xs up.1 in omega (arith, rest), below_end (x + 1) end xs up.1)

same_below : (p q : ℕ → Bool) (n : ℕ) → ((x : ℕ) → p x ≡ q x) → numbers_below p n ≡ numbers_below q n
unfolding numbers_below
same_below p q zero e = refl
same_below p q (suc n) e = ap₂ (λ (b : Bool) (l : List ℕ). if b then l ++ n ∷ [] else l) (e n) (same_below p q n e)

-- rising lists with the same members are the same
pub same_members : (xs ys : List ℕ) (end : ℕ) → AreMembers end xs → AreMembers end ys → ((x : ℕ) → has xs x ≡ has ys x) → xs ≡ ys
same_members xs ys end up vp same = sym (found xs end up) ∙ (same_below (has xs) (has ys) end same ∙ found ys end vp)

pub or_false : (b : Bool) → (b || false) ≡ b
or_false true = refl
or_false false = refl
