-- One more number below a bound.
use Rattle.scan_story.specs.Counting.{count_among}
use Rattle.std.proofs.Common.{◌≡◌, ◌≤◌, ◌+◌, ◌||◌, ℕ, Bool, true, false, List, ◌∷◌, length, map, set, min, if◌then◌else◌, add-one, refl, arith}
use Rattle.scan_story.proofs.Counts.{among_within}
use Rattle.std.proofs.lemmas.List.{set_past, map-id}
use Rattle.scan_story.specs.Counting.{any_below, count_below, least_below}

pub any_below_more : (p : ℕ → Bool) (n : ℕ) → any_below p (n + 1) ≡ (p n || any_below p n)
any_below_more p n = rw add-one refl

pub count_below_more : (p : ℕ → Bool) (n : ℕ) → count_below p (n + 1) ≡ (if p n then count_below p n + 1 else count_below p n)
count_below_more p n = rw add-one refl

pub count_among_cons : {X : Type 0} (p : X → Bool) (x : X) (xs : List X) → count_among p (x ∷ xs) ≡ (if p x then 1 else 0) + count_among p xs
count_among_cons p x xs = at_head (p x)
  where
    at_head : (b : Bool) → (if b then count_among p xs + 1 else count_among p xs) ≡ (if b then 1 else 0) + count_among p xs
    at_head true = omega arith
    at_head false = omega arith

pub count_within : {X : Type 0} (p : X → Bool) (xs : List X) → count_among p xs ≤ length xs
count_within p xs = among_within p xs

pub least_below_more : (p : ℕ → Bool) (f : ℕ → ℕ) (n d : ℕ) → least_below p f (n + 1) d ≡ (if p n then min (f n) (least_below p f n d) else least_below p f n d)
least_below_more p f n d = rw add-one refl

pub map_same : (xs : List ℕ) → map (λ x. x) xs ≡ xs
map_same xs = map-id xs

pub set_outside : (xs : List ℕ) (i x : ℕ) → length xs ≤ i → set xs i x ≡ xs
set_outside xs i x h = set_past xs i x h
