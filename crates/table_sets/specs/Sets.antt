-- Sets of small numbers, seen as the rising list of their members.
use Rattle.std.specs.Prelude.{◌≡◌, ◌+◌, ◌<◌, ◌≤◌, ◌/◌, ◌%◌, ◌==◌, ◌++◌, ℕ, zero, suc, Bool}
use Rattle.std.specs.Prelude.{true, false, List, [], ◌∷◌, slice_index_or, if◌then◌else◌}
use Rattle.std.specs.Int.{bit_at}
use Rattle.std.specs.List.{list_any}

-- the number is a member
abbrev pub has : List ℕ → ℕ → Bool
has members c = list_any (λ x. x == c) members

-- the numbers below n that pass, in rising order
unfoldable pub numbers_below : (ℕ → Bool) → ℕ → List ℕ
numbers_below p zero = []
numbers_below p (suc n) = if p n then numbers_below p n ++ n ∷ [] else numbers_below p n

-- the bit of a number in words of 64 bits
abbrev pub bit_of : List ℕ → ℕ → Bool
bit_of words c = bit_at (slice_index_or words (c / 64) 0) (c % 64) == 1

-- each member is above a start and below each later one, and all are below the end
abbrev pub Rising : ℕ → List ℕ → ℕ → Type 0
Rising start [] end = start ≤ end
Rising start (x ∷ xs) end = (start ≤ x) × Rising (x + 1) xs end

-- the members rise, and are below the end
abbrev pub AreMembers : ℕ → List ℕ → Type 0
AreMembers end members = Rising 0 members end

-- c is the least member from a start on
pub record IsLeastFrom (members : List ℕ) (start : ℕ) (c : ℕ) : Type 0 where
  pub from : start ≤ c
  pub there : has members c ≡ true
  pub least : (x : ℕ) → start ≤ x → x < c → has members x ≡ false
