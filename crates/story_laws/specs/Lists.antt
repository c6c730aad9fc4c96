-- Lists without repetition, and sums over lists.
use Rattle.std.specs.Prelude.{◌≡◌, ◌+◌, false, ℕ, List, [], ◌∷◌}
use Rattle.scan_story.specs.Counting.{has}

-- no number stands in the list twice
abbrev pub NoneTwice : List ℕ → Type 0
NoneTwice [] = Unit {0}
NoneTwice (x ∷ xs) = (has xs x ≡ false) × NoneTwice xs

-- the sum of f over the elements
abbrev pub sum_among : {A : Type 0} → (A → ℕ) → List A → ℕ
sum_among f [] = 0
sum_among f (x ∷ xs) = f x + sum_among f xs
