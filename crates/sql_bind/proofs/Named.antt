-- The columns that places name, as a set of numbers below 16.
use Rattle.std.proofs.Common.{◌≡◌, ◌+◌, ◌<◌, ◌≤◌, ℕ, List, [], ◌∷◌, length, map, refl, arith, inl, inr}
use Rattle.std.specs.Prelude.{Bool, false, ◌==◌}
use Rattle.std.proofs.lemmas.Bool.{cases_lt, lt-ltb, le-ltb, ne_eqb}
use Rattle.table_sets.specs.Sets.{has, numbers_below, Rising, AreMembers}
use Rattle.table_core.specs.declared.schema.Column.{Column}
use Rattle.filter_zones.proofs.Sets.{members_are}
use Rattle.sql_bind.specs.declared.places.Place as code
use Rattle.sql_bind.specs.Places.{place_seen}
use Rattle.sql_bind.specs.Plans.{is_named, named_columns}

rises-end : (start : ℕ) (xs : List ℕ) (end : ℕ) → Rising start xs end → start ≤ end
rises-end start [] end rises = rises
rises-end start (x ∷ xs) end rises = omega (arith, rises.0, rises-end (x + 1) xs end rises.1)

above_end : (start : ℕ) (xs : List ℕ) (end c : ℕ) → Rising start xs end → end ≤ c → has xs c ≡ false
above_end start [] end c rises high = refl
above_end start (x ∷ xs) end c rises high =
    let apart : (x == c) ≡ false = ne_eqb x c (λ e. omega (arith, e, rises-end (x + 1) xs end rises.1)) in
    rw apart (above_end (x + 1) xs end c rises.1 high)

-- a set of numbers below 16 is given by which of them pass
pub members_below : (members : List ℕ) (p : ℕ → Bool) → AreMembers 16 members → ((x : ℕ) → x < 16 → has members x ≡ p x) → members ≡ numbers_below p 16
members_below members p rise each = members_are members 16 16 p rise (λ c. elim (cases_lt c 16) [
  | inl low ↦ rw (lt-ltb c 16 low) (each c low)
  | inr high ↦ rw (le-ltb c 16 high) (above_end 0 members 16 c rise high)
])

pub first_alone : (members : List ℕ) → AreMembers 16 members → ((x : ℕ) → has members x ≡ (x == 0)) → members ≡ 0 ∷ []
unfolding numbers_below
first_alone members rise each = members_below members (λ x. x == 0) rise (λ x low. each x)

pub none_named : (columns : List Column) (ps : List code.Place) → length ps ≡ 0 → named_columns columns (map place_seen ps) ≡ 0 ∷ []
none_named columns [] e = refl
none_named columns (p ∷ ps) e = absurd (omega arith)

pub some_named : (columns : List Column) (ps : List code.Place) → (length ps ≡ 0 → ⊥) → named_columns columns (map place_seen ps) ≡ numbers_below (is_named columns (map place_seen ps)) 16
some_named columns [] e = absurd (e refl)
some_named columns (p ∷ ps) e = refl
