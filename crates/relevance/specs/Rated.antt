-- The best number so far, going up the numbers.
use Rattle.std.specs.Prelude.{ℕ, Bool, Option, None, Some, nat_lt}
use Rattle.relevance.specs.Best.{better_of, best_below}
use Rattle.relevance.specs.declared.rated.Rated.{Rated}

abbrev pub rated : ℕ → ℕ → Rated
rated x by = record { number = x; by = by }

abbrev pub by_of : Rated → ℕ
by_of r = r.by

abbrev pub is_below : ℕ → ℕ → Bool
is_below a b = nat_lt a b

abbrev pub is_above : ℕ → ℕ → Bool
is_above a b = nat_lt b a

abbrev pub lesser_of : Option Rated → ℕ → ℕ → Option Rated
lesser_of = better_of rated by_of is_below

abbrev pub greater_of : Option Rated → ℕ → ℕ → Option Rated
greater_of = better_of rated by_of is_above

-- the least of the numbers below n that pass
abbrev pub lowest_below : (ℕ → Bool) → (ℕ → ℕ) → ℕ → Option Rated
lowest_below = best_below rated by_of is_below

-- the greatest of the numbers below n that pass
abbrev pub highest_below : (ℕ → Bool) → (ℕ → ℕ) → ℕ → Option Rated
highest_below = best_below rated by_of is_above

abbrev pub number_in : Option Rated → Option ℕ
number_in None = None
number_in (Some r) = Some r.number
