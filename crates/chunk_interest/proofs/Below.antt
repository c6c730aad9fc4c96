-- What passes below a bound, and among elements.
use Rattle.std.proofs.Common.{◌≡◌, ◌≢◌, ◌<◌, ◌≤◌, ◌+◌, ◌∷◌, ◌||◌, ◌==◌, ℕ, zero, suc, Bool, true, false, List, length, if◌then◌else◌, Option, None, Some, add-one, refl, ◌∙◌, ap, arith, inl, inr}
use Rattle.std.proofs.lemmas.Bool.{cases_Bool}
use Rattle.std.proofs.lemmas.Bool.Decides.{nat_tests}
use Rattle.scan_story.specs.Counting.{any_below, count_below, count_among, is_number}
use Rattle.scan_story.proofs.Counts.{among_within}

pub same_number : (a b : ℕ) → (a == b) ≡ true → a ≡ b
same_number a b e = grind (arith, nat_tests)

pub equal_number : (a b : ℕ) → a ≡ b → (a == b) ≡ true
equal_number a b e = grind (arith, nat_tests)

pub other_number : (a b : ℕ) → a ≢ b → (a == b) ≡ false
other_number a b n = grind (arith, nat_tests, n)

pub true_false : (b : Bool) → b ≡ true → b ≡ false → ⊥
true_false b t f = cc

pub is_the_number : (p : ℕ) (o : Option ℕ) → o ≡ Some p → is_number p o ≡ true
is_the_number p o e = ap (is_number p) e ∙ equal_number p p refl

pub the_number_is : (p : ℕ) (o : Option ℕ) → is_number p o ≡ true → o ≡ Some p
the_number_is p None e = absurd (true_false false e refl)
the_number_is p (Some x) e = ap Some (same_number x p e)

pub same_some : {X : Type 0} (x y : X) → Some x ≡ Some y → x ≡ y
same_some x y e = cc

pub none_some : {X : Type 0} (x : X) → None ≡ Some x → ⊥
none_some x e = cc

pub either : (a b : Bool) → (a || b) ≡ false → (a ≡ false) × (b ≡ false)
either true b e = absurd (true_false true refl e)
either false b e = (refl, e)

pub none_at : (p : ℕ → Bool) (n k : ℕ) → any_below p n ≡ false → k < n → p k ≡ false
none_at p zero k e lt = absurd (omega arith)
none_at p (suc n) k e lt = let o = either (p n) (any_below p n) e in grind (arith, none_at p n k, o.0, o.1)

pub any_at : (p : ℕ → Bool) (n k : ℕ) → k < n → p k ≡ true → any_below p n ≡ true
any_at p zero k lt t = absurd (omega arith)
any_at p (suc n) k lt t = grind (arith, any_at p n k)

pub none_from : (p : ℕ → Bool) (n : ℕ) → ((k : ℕ) → k < n → p k ≡ false) → any_below p n ≡ false
none_from p zero h = refl
none_from p (suc n) h = let e = h n (omega arith) in let r = none_from p n (λ k lt. h k (omega arith)) in rw (e, r) refl

pub found : (p : ℕ → Bool) (n : ℕ) → any_below p n ≡ true → (k : ℕ) × (k < n) × (p k ≡ true)
found p zero e = absurd (true_false false e refl)
found p (suc n) e = elim (cases_Bool (p n)) [
  | inl so ↦ (n, omega arith, so)
  | inr not ↦ (let r : any_below p n ≡ true = rw not at e in let k = found p n r in (k.0, omega (arith, k.1), k.2))
]

pub any_same : (p q : ℕ → Bool) (n : ℕ) → ((k : ℕ) → k < n → p k ≡ q k) → any_below p n ≡ any_below q n
any_same p q zero h = refl
any_same p q (suc n) h = let e = h n (omega arith) in let r = any_same p q n (λ k lt. h k (omega arith)) in cc

pub count_same : (p q : ℕ → Bool) (n : ℕ) → ((k : ℕ) → k < n → p k ≡ q k) → count_below p n ≡ count_below q n
count_same p q zero h = refl
count_same p q (suc n) h = let e = h n (omega arith) in let r = count_same p q n (λ k lt. h k (omega arith)) in rw (e, r) refl

-- none counts
pub count_none : (p : ℕ → Bool) (n : ℕ) → ((k : ℕ) → k < n → p k ≡ false) → count_below p n ≡ 0
count_none p zero none = refl
count_none p (suc n) none = let here = none n (omega arith) in let rest = count_none p n (λ k lt. none k (omega (arith, lt))) in rw (here, rest) refl

-- counting on by one, for loops

pub any_below_more : (p : ℕ → Bool) (n : ℕ) → any_below p (n + 1) ≡ (p n || any_below p n)
any_below_more p n = rw add-one refl

pub count_below_more : (p : ℕ → Bool) (n : ℕ) → count_below p (n + 1) ≡ (if p n then count_below p n + 1 else count_below p n)
count_below_more p n = rw add-one refl

pub count_among_cons : {X : Type 0} (p : X → Bool) (x : X) (xs : List X) → count_among p (x ∷ xs) ≡ (if p x then 1 else 0) + count_among p xs
count_among_cons p x xs = at_head (p x)
  where
    at_head : (b : Bool) → (if b then count_among p xs + 1 else count_among p xs) ≡ (if b then 1 else 0) + count_among p xs
    at_head true = omega arith
    at_head false = omega arith

pub count_among_within : {X : Type 0} (p : X → Bool) (xs : List X) → count_among p xs ≤ length xs
count_among_within p xs = among_within p xs
