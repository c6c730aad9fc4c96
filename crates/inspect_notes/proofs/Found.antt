-- The members of a set of columns, found by their numbers.
use Rattle.std.proofs.Common.{◌≡◌, ◌≤◌, ◌+◌, ℕ, false, List, [], ◌∷◌, refl, sym, arith, inl, inr}
use Rattle.std.specs.Prelude.{◌&&◌, nat_lt}
use Rattle.std.proofs.lemmas.Bool.{cases_lt, lt-ltb, le-ltb, ne_eqb}
use Rattle.table_sets.specs.Sets.{has, numbers_below, AreMembers, Rising}
use Rattle.filter_zones.proofs.Sets.{members_are}

-- a number from the end on is no member
past_end : (start end c : ℕ) (members : List ℕ) → Rising start members end → end ≤ c → has members c ≡ false
past_end start end c [] rise past = refl
past_end start end c (x ∷ xs) rise past = rw (ne_eqb x c (λ e. omega (arith, e, past, below (x + 1) xs rise.1))) (past_end (x + 1) end c xs rise.1 past) where
  below : (from : ℕ) (ys : List ℕ) → Rising from ys end → from ≤ end
  below from [] up = up
  below from (y ∷ ys) up = let rest = below (y + 1) ys up.1 in omega (arith, rest, up.0)

pub members_below : (members : List ℕ) (end : ℕ) → AreMembers end members → numbers_below (has members) end ≡ members
members_below members end rise = sym (members_are members end end (has members) rise within) where
  within : (c : ℕ) → has members c ≡ (nat_lt c end && has members c)
  within c = elim (cases_lt c end) [
    | inl low ↦ rw (lt-ltb c end low) refl
    | inr past ↦ rw (le-ltb c end past) (past_end 0 end c members rise past)
  ]
