-- Rising numbers, as sets, settings and scans have them.
use Rattle.std.proofs.Common.{◌≡◌, ◌<◌, ◌≤◌, ◌+◌, ◌++◌, ◌∷◌, ℕ, zero, suc, Bool, true, List, [], arith, inl, inr}
use Rattle.std.specs.List.{AllByRecursion}
use Rattle.std.proofs.lemmas.Bool.{cases_Bool}
use Rattle.table_sets.specs.Sets.{numbers_below, Rising}
use Rattle.scan_story.specs.Setting.{IsRising}

-- a later start, and an earlier one
pub rises_from : (start other : ℕ) (xs : List ℕ) (end : ℕ) → other ≤ start → Rising start xs end → Rising other xs end
rises_from start other [] end low up = omega (arith, low, up)
rises_from start other (x ∷ xs) end low up = (omega (arith, low, up.0), up.1)

pub rises_to : (start : ℕ) (xs : List ℕ) (end other : ℕ) → end ≤ other → Rising start xs end → Rising start xs other
rises_to start [] end other low up = omega (arith, low, up)
rises_to start (x ∷ xs) end other low up = (up.0, rises_to (x + 1) xs end other low up.1)

-- one rising list behind another
pub rises_on : (start : ℕ) (xs : List ℕ) (mid : ℕ) (ys : List ℕ) (end : ℕ) → Rising start xs mid → Rising mid ys end → Rising start (xs ++ ys) end
rises_on start [] mid ys end up more = rises_from mid start ys end up more
rises_on start (x ∷ xs) mid ys end up more = (up.0, rises_on (x + 1) xs mid ys end up.1 more)

-- a member behind the start is greater than what is before it
pub all_above : (x start : ℕ) (xs : List ℕ) (end : ℕ) → x < start → Rising start xs end → AllByRecursion (λ (y : ℕ). x < y) xs
all_above x start [] end low up = tt
all_above x start (y ∷ xs) end low up = (let here = up.0 in omega (arith, here, low), all_above x (y + 1) xs end (let here = up.0 in omega (arith, here, low)) up.1)

pub is_rising : (start : ℕ) (xs : List ℕ) (end : ℕ) → Rising start xs end → IsRising xs
is_rising start [] end up = tt
is_rising start (x ∷ xs) end up = (all_above x (x + 1) xs end (omega arith) up.1, is_rising (x + 1) xs end up.1)

-- what holds of each number that passes holds of all numbers below an end that pass
module _ (P : ℕ → Type 0) where
  one_behind : (xs : List ℕ) (x : ℕ) → AllByRecursion P xs → P x → AllByRecursion P (xs ++ x ∷ [])
  one_behind [] x all here = (here, tt)
  one_behind (y ∷ xs) x all here = (all.0, one_behind xs x all.1 here)

  pub passing_all : (p : ℕ → Bool) → ((c : ℕ) → p c ≡ true → P c) → (n : ℕ) → AllByRecursion P (numbers_below p n)
  unfolding numbers_below
  passing_all p each zero = tt
  passing_all p each (suc n) = elim (cases_Bool (p n)) [
    | inl so ↦ rw so (one_behind (numbers_below p n) n (passing_all p each n) (each n so))
    | inr not ↦ rw not (passing_all p each n)
  ]
