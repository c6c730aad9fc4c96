-- How many numbers or elements pass a test, whether some does, and the least of their values.
use Rattle.std.specs.Prelude.{◌==◌, ◌+◌, ◌||◌, false, ℕ, zero, suc, min, Bool}
use Rattle.std.specs.Prelude.{List, [], ◌∷◌, Option, None, Some, if◌then◌else◌}
use Rattle.std.specs.List.{list_any}

-- how many elements pass
abbrev pub count_among : {A : Type 0} → (A → Bool) → List A → ℕ
count_among p [] = 0
count_among p (x ∷ xs) = if p x then count_among p xs + 1 else count_among p xs

-- how many numbers below n pass
abbrev pub count_below : (ℕ → Bool) → ℕ → ℕ
count_below p zero = 0
count_below p (suc n) = if p n then count_below p n + 1 else count_below p n

-- some number below n passes
abbrev pub any_below : (ℕ → Bool) → ℕ → Bool
any_below p zero = false
any_below p (suc n) = p n || any_below p n

-- the least value of f at the numbers below n that pass, or d where d is less or none passes
abbrev pub least_below : (ℕ → Bool) → (ℕ → ℕ) → ℕ → ℕ → ℕ
least_below p f zero d = d
least_below p f (suc n) d = if p n then min (f n) (least_below p f n d) else least_below p f n d

-- x is an element
abbrev pub has : List ℕ → ℕ → Bool
has xs x = list_any (λ y. y == x) xs

-- x is the number in the option
abbrev pub is_number : ℕ → Option ℕ → Bool
is_number x None = false
is_number x (Some y) = y == x
