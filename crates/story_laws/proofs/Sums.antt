-- Sums and counts over lists, and over the needs of a setting.
use Rattle.std.proofs.Common.{◌≡◌, ◌≢◌, ◌≤◌, ◌+◌, ◌*◌, ◌∷◌, [], ◌==◌, ◌&&◌, ℕ, Bool, true, false, cond, if◌then◌else◌, List, length, find, Some, refl, sym, ◌∙◌, ap, subst, arith}
use Rattle.std.specs.List.{AllByRecursion, list_any}
use Rattle.scan_story.specs.declared.setting.Need.{Need}
use Rattle.scan_story.specs.Counting.{count_among}
use Rattle.scan_story.specs.Setting.{AreDistinct}
use Rattle.story_laws.specs.Lists.{sum_among}
use Rattle.story_laws.proofs.Bools.{none_some, or_false, or_off, other_number, same_number, same_some}

pub sum_mono : {A : Type 0} (f g : A → ℕ) (xs : List A) → ((x : A) → f x ≤ g x) → sum_among f xs ≤ sum_among g xs
sum_mono f g [] le = omega arith
sum_mono f g (x ∷ xs) le = omega (arith, le x, sum_mono f g xs le)

pub sum_add : {A : Type 0} (f g : A → ℕ) (xs : List A) → sum_among (λ x. f x + g x) xs ≡ sum_among f xs + sum_among g xs
sum_add f g [] = refl
sum_add f g (x ∷ xs) = omega (arith, sum_add f g xs)

pub sum_same : {A : Type 0} (k : ℕ) (xs : List A) → sum_among (λ x. k) xs ≡ k * length xs
sum_same k [] = omega arith
sum_same k (x ∷ xs) = let e : k * (length xs + 1) ≡ k * length xs + k = grind arith in omega (arith, sum_same k xs, e)

pub sum_twice : {A : Type 0} (t : A → Bool) (xs : List A) → sum_among (λ x. if t x then 2 else 0) xs ≡ 2 * count_among t xs
sum_twice t [] = refl
sum_twice t (x ∷ xs) = step (t x) (sum_twice t xs)
  where
    step : (b : Bool) → sum_among (λ x. if t x then 2 else 0) xs ≡ 2 * count_among t xs → (if b then 2 else 0) + sum_among (λ x. if t x then 2 else 0) xs ≡ 2 * (if b then count_among t xs + 1 else count_among t xs)
    step true e = omega (arith, e)
    step false e = omega (arith, e)

pub none_step : (b : Bool) (k : ℕ) → (if b then k + 1 else k) ≡ 0 → (b ≡ false) × (k ≡ 0)
none_step true k e = absurd (omega arith)
none_step false k e = (refl, e)

-- where none passes p, it is enough that f is at most g where p fails
pub sum_where : {A : Type 0} (p : A → Bool) (f g : A → ℕ) (xs : List A) → count_among p xs ≡ 0 → ((x : A) → p x ≡ false → f x ≤ g x) → sum_among f xs ≤ sum_among g xs
sum_where p f g [] none le = omega arith
sum_where p f g (x ∷ xs) none le =
    let o = none_step (p x) (count_among p xs) none in
    omega (arith, le x o.0, sum_where p f g xs o.1 le)

pub among_none : {A : Type 0} (p : A → Bool) (xs : List A) → list_any p xs ≡ false → count_among p xs ≡ 0
among_none p [] e = refl
among_none p (x ∷ xs) e = let o = or_false (p x) (list_any p xs) e in rw (o.0) (among_none p xs o.1)

pub among_less : {A : Type 0} (p q : A → Bool) (xs : List A) → count_among (λ x. p x && q x) xs ≤ count_among p xs
among_less p q [] = omega arith
among_less p q (x ∷ xs) = step (p x) (q x) (among_less p q xs)
  where
    step : (a b : Bool) → count_among (λ x. p x && q x) xs ≤ count_among p xs
        → (if a && b then count_among (λ x. p x && q x) xs + 1 else count_among (λ x. p x && q x) xs) ≤ (if a then count_among p xs + 1 else count_among p xs)
    step true true le = omega arith
    step true false le = omega arith
    step false b le = le

-- The need of a query

-- f is less than g at the need that is found
pub sum_found : (q : ℕ) (m : Need) (f g : Need → ℕ) (ns : List Need) → find (λ n. n.query == q) ns ≡ Some m → ((n : Need) → f n ≤ g n) → f m + 1 ≤ g m → sum_among f ns + 1 ≤ sum_among g ns
sum_found q m f g [] on le less = absurd (none_some m on)
sum_found q m f g (n ∷ ns) on le less =
    elim (n.query == q) as (λ t. cond t (Some n) (find (λ k. k.query == q) ns) ≡ Some m → sum_among f (n ∷ ns) + 1 ≤ sum_among g (n ∷ ns)) [
      | true ↦ λ e. (let P : Need → Type 0 = λ k. f k + 1 ≤ g k in let here : f n + 1 ≤ g n = subst P (sym (same_some n m e)) less in omega (arith, sum_mono f g ns le))
      | false ↦ λ e. omega (arith, le n, sum_found q m f g ns e le less)
    ] on

pub found_query : (q : ℕ) (m : Need) (ns : List Need) → find (λ n. n.query == q) ns ≡ Some m → m.query ≡ q
found_query q m [] on = absurd (none_some m on)
found_query q m (n ∷ ns) on =
    elim (n.query == q) as (λ t. (n.query == q) ≡ t → cond t (Some n) (find (λ k. k.query == q) ns) ≡ Some m → m.query ≡ q) [
      | true ↦ λ t e. ap (λ (k : Need). k.query) (sym (same_some n m e)) ∙ same_number n.query q t
      | false ↦ λ t e. found_query q m ns e
    ] refl on

sum_others : (q : ℕ) (f g : Need → ℕ) (ns : List Need) → list_any (λ m. m.query == q) ns ≡ false → ((n : Need) → (n.query == q) ≡ false → f n ≤ g n) → sum_among f ns ≤ sum_among g ns
sum_others q f g [] none le = omega arith
sum_others q f g (n ∷ ns) none le =
    let o = or_false (n.query == q) (list_any (λ m. m.query == q) ns) none in
    omega (arith, le n o.0, sum_others q f g ns o.1 le)

-- no need of the rest names the query of the first
pub no_other : (q : ℕ) (n : Need) (ns : List Need) → AllByRecursion (λ (m : Need). n.query ≢ m.query) ns → (n.query == q) ≡ true → list_any (λ m. m.query == q) ns ≡ false
no_other q n [] d t = refl
no_other q n (m ∷ ns) d t =
    or_off (m.query == q) (list_any (λ k. k.query == q) ns) (other_number m.query q (λ e. d.0 (same_number n.query q t ∙ sym e))) (no_other q n ns d.1 t)

-- where query q alone loses, and at most one, the sum loses at most one
pub sum_one_less : (q : ℕ) (f g : Need → ℕ) (ns : List Need) → AreDistinct ns → ((n : Need) → (n.query == q) ≡ false → f n ≤ g n) → ((n : Need) → f n ≤ g n + 1) → sum_among f ns ≤ sum_among g ns + 1
sum_one_less q f g [] d le less = omega arith
sum_one_less q f g (n ∷ ns) d le less =
    elim (n.query == q) as (λ t. (n.query == q) ≡ t → sum_among f (n ∷ ns) ≤ sum_among g (n ∷ ns) + 1) [
      | true ↦ λ t. omega (arith, less n, sum_others q f g ns (no_other q n ns d.0 t) le)
      | false ↦ λ t. omega (arith, le n t, sum_one_less q f g ns d.1 le less)
    ] refl
