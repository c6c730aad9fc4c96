-- Lists of numbers: elements, filters, and lists without repetition.
use Rattle.std.proofs.Common.{◌≡◌, ◌<◌, ◌≤◌, ◌∷◌, [], ◌==◌, ◌&&◌, ◌||◌, not, ℕ, Bool, true, false, if◌then◌else◌, List, length, filter, refl, sym, ◌∙◌, ap, arith}
use Rattle.std.specs.List.{AllByRecursion, list_all, list_any}
use Rattle.scan_story.specs.Counting.{count_below, has}
use Rattle.scan_story.specs.Setting.{IsRising}
use Rattle.scan_story.proofs.Counts.{below_within}
use Rattle.story_laws.specs.Lists.{NoneTwice}
use Rattle.story_laws.proofs.Bools.{and_both, both_and, either, if_not, not_both, or_false, or_left, or_off, or_right, other_number, same_number, self_number}
use Rattle.story_laws.proofs.Counts.{count_more, count_nothing, count_one, count_or}

pub here : (x : ℕ) (b : Bool) → ((x == x) || b) ≡ true
here x b = or_left (x == x) b (self_number x)

pub all_has : (t : ℕ → Bool) (xs : List ℕ) (p : ℕ) → list_all t xs ≡ true → has xs p ≡ true → t p ≡ true
all_has t [] p e m = absurd (not_both false m refl)
all_has t (x ∷ xs) p e m =
    let o = and_both (t x) (list_all t xs) e in
    either (x == p) (has xs p) m (λ a. sym (ap t (same_number x p a)) ∙ o.0) (λ a. all_has t xs p o.1 a)

pub all_of : (t : ℕ → Bool) (xs : List ℕ) → ((x : ℕ) → has xs x ≡ true → t x ≡ true) → list_all t xs ≡ true
all_of t [] f = refl
all_of t (x ∷ xs) f = both_and (t x) (list_all t xs) (f x (here x (has xs x))) (all_of t xs (λ y e. f y (or_right (x == y) (has xs y) e)))

pub some_has : (t : ℕ → Bool) (xs : List ℕ) → list_any t xs ≡ true → (x : ℕ) × (has xs x ≡ true) × (t x ≡ true)
some_has t [] e = absurd (not_both false e refl)
some_has t (x ∷ xs) e =
    either (t x) (list_any t xs) e (λ a. (x, here x (has xs x), a)) (λ a. (let r = some_has t xs a in (r.0, or_right (x == r.0) (has xs r.0) r.1, r.2)))

pub some_at : (t : ℕ → Bool) (xs : List ℕ) (p : ℕ) → has xs p ≡ true → t p ≡ true → list_any t xs ≡ true
some_at t [] p m e = absurd (not_both false m refl)
some_at t (x ∷ xs) p m e = either (x == p) (has xs p) m (λ a. or_left (t x) (list_any t xs) (ap t (same_number x p a) ∙ e)) (λ a. or_right (t x) (list_any t xs) (some_at t xs p a e))

pub none_has : (t : ℕ → Bool) (xs : List ℕ) (p : ℕ) → list_any t xs ≡ false → has xs p ≡ true → t p ≡ false
none_has t xs p e m = if_not (t p) (λ a. not_both (list_any t xs) (some_at t xs p m a) e)

-- Filtered lists

pub filter_has : (t : ℕ → Bool) (xs : List ℕ) (p : ℕ) → has (filter t xs) p ≡ true → (has xs p ≡ true) × (t p ≡ true)
filter_has t [] p e = absurd (not_both false e refl)
filter_has t (x ∷ xs) p e = step (t x) refl (filter_has t xs p) e
  where
    step : (b : Bool) → t x ≡ b → (has (filter t xs) p ≡ true → (has xs p ≡ true) × (t p ≡ true)) → has (if b then x ∷ filter t xs else filter t xs) p ≡ true → (((x == p) || has xs p) ≡ true) × (t p ≡ true)
    step true is f e = either (x == p) (has (filter t xs) p) e (λ a. (or_left (x == p) (has xs p) a, sym (ap t (same_number x p a)) ∙ is)) (λ a. (or_right (x == p) (has xs p) (f a).0, (f a).1))
    step false is f e = (or_right (x == p) (has xs p) (f e).0, (f e).1)

-- an element that is filtered out fails the test
pub filtered_out : (t : ℕ → Bool) (xs : List ℕ) (p : ℕ) → has xs p ≡ true → has (filter t xs) p ≡ false → t p ≡ false
filtered_out t [] p e f = absurd (not_both false e refl)
filtered_out t (x ∷ xs) p e f = step (t x) refl (filtered_out t xs p) e f
  where
    step : (b : Bool) → t x ≡ b → (has xs p ≡ true → has (filter t xs) p ≡ false → t p ≡ false) → ((x == p) || has xs p) ≡ true → has (if b then x ∷ filter t xs else filter t xs) p ≡ false → t p ≡ false
    step true is g e f = (let o = or_false (x == p) (has (filter t xs) p) f in either (x == p) (has xs p) e (λ a. absurd (not_both (x == p) a o.0)) (λ a. g a o.1))
    step false is g e f = either (x == p) (has xs p) e (λ a. sym (ap t (same_number x p a)) ∙ is) (λ a. g a f)

-- where not all pass, some that fail are left
pub some_left : (t : ℕ → Bool) (xs : List ℕ) → list_all t xs ≡ false → list_any (λ p. true) (filter (λ p. not (t p)) xs) ≡ true
some_left t [] e = absurd cc
some_left t (x ∷ xs) e = step (t x) (some_left t xs) e
  where
    step : (b : Bool) → (list_all t xs ≡ false → list_any (λ p. true) (filter (λ p. not (t p)) xs) ≡ true) → (b && list_all t xs) ≡ false → list_any (λ p. true) (if not b then x ∷ filter (λ p. not (t p)) xs else filter (λ p. not (t p)) xs) ≡ true
    step true f e = f e
    step false f e = refl

pub some_length : (t : ℕ → Bool) (xs : List ℕ) → list_any t xs ≡ true → 0 < length xs
some_length t [] e = absurd (not_both false e refl)
some_length t (x ∷ xs) e = omega arith

pub filter_length : (t : ℕ → Bool) (xs : List ℕ) → length (filter t xs) ≤ length xs
filter_length t [] = omega arith
filter_length t (x ∷ xs) = step (t x) (filter_length t xs)
  where
    step : (b : Bool) → length (filter t xs) ≤ length xs → length (if b then x ∷ filter t xs else filter t xs) ≤ length (x ∷ xs)
    step true le = omega arith
    step false le = omega arith

-- Lists without repetition

pub none_twice_filter : (t : ℕ → Bool) (xs : List ℕ) → NoneTwice xs → NoneTwice (filter t xs)
none_twice_filter t [] d = tt
none_twice_filter t (x ∷ xs) d = step (t x) (none_twice_filter t xs d.1)
  where
    step : (b : Bool) → NoneTwice (filter t xs) → NoneTwice (if b then x ∷ filter t xs else filter t xs)
    step true a = (if_not (has (filter t xs) x) (λ e. not_both (has xs x) (filter_has t xs x e).0 d.0), a)
    step false a = a

-- a number that is less than each isn't among them
above_all : (n x : ℕ) (xs : List ℕ) → x ≤ n → AllByRecursion (λ (y : ℕ). n < y) xs → has xs x ≡ false
above_all n x [] le all = refl
above_all n x (y ∷ xs) le all = or_off (y == x) (has xs x) (other_number y x (λ e. omega (arith, e, le, all.0))) (above_all n x xs le all.1)

-- rising numbers are distinct
pub rising_once : (xs : List ℕ) → IsRising xs → NoneTwice xs
rising_once [] r = tt
rising_once (x ∷ xs) r = (above_all x x xs (omega arith) r.0, rising_once xs r.1)

pub all_below_at : (n : ℕ) (xs : List ℕ) (x : ℕ) → AllByRecursion (λ (y : ℕ). y < n) xs → has xs x ≡ true → x < n
all_below_at n [] x all e = absurd (not_both false e refl)
all_below_at n (y ∷ xs) x all e = either (y == x) (has xs x) e (λ t. omega (arith, all.0, same_number y x t)) (λ t. all_below_at n xs x all.1 t)

-- a list of numbers below n, none twice, is as long as the numbers that it names
pub length_named : (n : ℕ) (xs : List ℕ) → NoneTwice xs → ((x : ℕ) → has xs x ≡ true → x < n) → length xs ≤ count_below (has xs) n
length_named n [] d f = omega arith
length_named n (x ∷ xs) d f =
    let rest = length_named n xs d.1 (λ y e. f y (or_right (x == y) (has xs y) e)) in
    omega (arith, rest, count_more (has xs) x n (f x (here x (has xs x))) d.0)

-- and at most as long as n
pub length_below : (n : ℕ) (xs : List ℕ) → NoneTwice xs → ((x : ℕ) → has xs x ≡ true → x < n) → length xs ≤ n
length_below n xs d f = omega (arith, length_named n xs d f, below_within (has xs) n)

-- it names no more than its length
pub count_has : (xs : List ℕ) (n : ℕ) → count_below (has xs) n ≤ length xs
count_has [] n = omega (arith, count_nothing n)
count_has (x ∷ xs) n = omega (arith, count_or (λ c. x == c) (has xs) n, count_one x n, count_has xs n)
