-- Definitions by recursion over the bytes of a field, where a loop stands in the middle of them.
use Rattle.std.proofs.Common.{◌≡◌, ◌+◌, ◌<◌, ◌≤◌, ℕ, List, length, drop, get_or, refl, ap, add-one, drop-cons, drop_of_length-le}
use Rattle.std.specs.Prelude.{◌∷◌}
use Rattle.prepare_look.specs.Exponents.{ends_so, power_after, power_from}
use Rattle.prepare_look.specs.Shapes.{shape_after, shape_from}
use Rattle.prepare_look.specs.Traits.{traits_after, traits_from}
use Rattle.prepare_look.specs.declared.exponent.Power.{Power}
use Rattle.prepare_look.specs.declared.shape.Shape.{Shape}
use Rattle.prepare_look.specs.declared.traits.Traits.{Traits}

front : (xs : List ℕ) (i : ℕ) → i < length xs → drop i xs ≡ get_or xs i 0 ∷ drop (i + 1) xs
front xs i h = rw (add-one, drop-cons xs i 0) refl

pub shape-more : (s : Shape) (xs : List ℕ) (i : ℕ) → i < length xs → shape_from s (drop i xs) ≡ shape_from (shape_after s (get_or xs i 0)) (drop (i + 1) xs)
unfolding shape_from
shape-more s xs i h = ap (λ (l : List ℕ). shape_from s l) (front xs i h)

pub shape-done : (s : Shape) (xs : List ℕ) (i : ℕ) → length xs ≤ i → shape_from s (drop i xs) ≡ s
unfolding shape_from
shape-done s xs i h = rw (drop_of_length-le xs h) refl

pub power-more : (s : Power) (xs : List ℕ) (i : ℕ) → i < length xs → power_from s (drop i xs) ≡ power_from (power_after s (get_or xs i 0)) (drop (i + 1) xs)
unfolding power_from
power-more s xs i h = ap (λ (l : List ℕ). power_from s l) (front xs i h)

pub power-done : (s : Power) (xs : List ℕ) (i : ℕ) → length xs ≤ i → power_from s (drop i xs) ≡ ends_so s
unfolding power_from
power-done s xs i h = rw (drop_of_length-le xs h) refl

pub traits-more : (s : Traits) (xs : List ℕ) (i : ℕ) → i < length xs → traits_from s (drop i xs) ≡ traits_from (traits_after s (get_or xs i 0)) (drop (i + 1) xs)
unfolding traits_from
traits-more s xs i h = ap (λ (l : List ℕ). traits_from s l) (front xs i h)

pub traits-done : (s : Traits) (xs : List ℕ) (i : ℕ) → length xs ≤ i → traits_from s (drop i xs) ≡ s
unfolding traits_from
traits-done s xs i h = rw (drop_of_length-le xs h) refl
