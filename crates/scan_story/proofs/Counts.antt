-- Laws of counting: what passes more is counted more, once more, or but for one.
use Rattle.std.proofs.Common.{◌≡◌, ◌≤◌, ◌+◌, ◌∷◌, [], not, ℕ, zero, suc, Bool, true, false, List, length, if◌then◌else◌, refl, ◌∙◌, ap, arith}
use Rattle.scan_story.specs.Counting.{count_among, count_below, any_below}

-- Among elements

pub among_same : {A : Type 0} (p q : A → Bool) → ((x : A) → p x ≡ q x) → (xs : List A) → count_among p xs ≡ count_among q xs
among_same p q same [] = refl
among_same p q same (x ∷ xs) =
    ap (λ (b : Bool). if b then count_among p xs + 1 else count_among p xs) (same x) ∙ ap (λ (k : ℕ). if q x then k + 1 else k) (among_same p q same xs)

pub among_within : {A : Type 0} (p : A → Bool) (xs : List A) → count_among p xs ≤ length xs
among_within p [] = omega arith
among_within p (x ∷ xs) = at_head (p x) (among_within p xs)
  where
    at_head : (b : Bool) → count_among p xs ≤ length xs → (if b then count_among p xs + 1 else count_among p xs) ≤ length (x ∷ xs)
    at_head true k = omega (arith, k)
    at_head false k = omega (arith, k)

-- Below a number

pub below_more : (p : ℕ → Bool) (n : ℕ) → count_below p (n + 1) ≡ (if p n then count_below p n + 1 else count_below p n)
below_more p n = let e : n + 1 ≡ suc n = omega arith in ap (count_below p) e

pub any_more : (p : ℕ → Bool) (n : ℕ) → any_below p (n + 1) ≡ any_below p (suc n)
any_more p n = let e : n + 1 ≡ suc n = omega arith in ap (any_below p) e

pub below_within : (p : ℕ → Bool) (n : ℕ) → count_below p n ≤ n
below_within p zero = omega arith
below_within p (suc n) = at_last (p n) (below_within p n)
  where
    at_last : (b : Bool) → count_below p n ≤ n → (if b then count_below p n + 1 else count_below p n) ≤ suc n
    at_last true k = omega (arith, k)
    at_last false k = omega (arith, k)

-- those that pass and those that don't are all
pub below_all : (p : ℕ → Bool) (n : ℕ) → count_below p n + count_below (λ k. not (p k)) n ≡ n
below_all p zero = refl
below_all p (suc n) = at_last (p n) (below_all p n)
  where
    at_last : (b : Bool) → count_below p n + count_below (λ k. not (p k)) n ≡ n
        → (if b then count_below p n + 1 else count_below p n) + (if not b then count_below (λ k. not (p k)) n + 1 else count_below (λ k. not (p k)) n) ≡ suc n
    at_last true k = omega (arith, k)
    at_last false k = omega (arith, k)

pub below_mono : (p q : ℕ → Bool) → ((k : ℕ) → p k ≡ true → q k ≡ true) → (n : ℕ) → count_below p n ≤ count_below q n
below_mono p q gives zero = omega arith
below_mono p q gives (suc n) = at_last (p n) (q n) (gives n) (below_mono p q gives n)
  where
    at_last : (a b : Bool) → (a ≡ true → b ≡ true) → count_below p n ≤ count_below q n
        → (if a then count_below p n + 1 else count_below p n) ≤ (if b then count_below q n + 1 else count_below q n)
    at_last true true f k = omega (arith, k)
    at_last true false f k = let t = f refl in absurd cc
    at_last false true f k = omega (arith, k)
    at_last false false f k = omega (arith, k)
