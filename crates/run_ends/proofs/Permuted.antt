-- Two lists without repetition that have the same numbers are permutations of one another.
use Rattle.std.proofs.Common.{◌≡◌, ◌∙◌, ◌==◌, ℕ, Bool, true, false, List, [], ◌∷◌, refl, sym, ap, inl, inr}
use Rattle.std.specs.Prelude.{IsPermutation, filter, not}
use Rattle.std.proofs.lemmas.Bool.{cases_Bool}
use Rattle.std.proofs.lemmas.List.Sorted.{IsPermutation-cons, IsPermutation-middle, IsPermutation-refl, IsPermutation-sym, IsPermutation-trans}
use Rattle.scan_story.specs.Counting.{has}
use Rattle.story_laws.specs.Lists.{NoneTwice}
use Rattle.story_laws.proofs.Bools.{either, not_both, not_false, or_false, or_left, or_right, same_number, self_number}
use Rattle.story_laws.proofs.Lists.{filter_has, filtered_out, none_twice_filter}

-- the list without a number
abbrev without : ℕ → List ℕ → List ℕ
without x xs = filter (λ y. not (y == x)) xs

-- a list that lacks the number stays as it is
as_it_was : (x : ℕ) (xs : List ℕ) → has xs x ≡ false → without x xs ≡ xs
as_it_was x [] none = refl
as_it_was x (y ∷ xs) none = let apart = or_false (y == x) (has xs x) none in rw apart.0 (ap (λ ys. y ∷ ys) (as_it_was x xs apart.1))

-- a number is taken out of a list that has it once
taken_out : (x : ℕ) (xs : List ℕ) → NoneTwice xs → has xs x ≡ true → IsPermutation xs (x ∷ without x xs)
taken_out x [] once there = absurd (not_both false there refl)
taken_out x (y ∷ xs) once there = elim (cases_Bool (y == x)) [
  | inl here ↦
      let same : y ≡ x = same_number y x here in
      let gone : has xs x ≡ false = ap (has xs) (sym same) ∙ once.0 in
      rw (here, same, as_it_was x xs gone) (IsPermutation-refl (x ∷ xs))
  | inr other ↦
      let later : has xs x ≡ true = rw other at there in
      rw other (IsPermutation-trans (y ∷ xs) (y ∷ x ∷ without x xs) (x ∷ y ∷ without x xs)
      (IsPermutation-cons y xs (x ∷ without x xs) (taken_out x xs once.1 later)) (IsPermutation-middle (y ∷ []) x (without x xs)))
]

-- another number is left
left_there : (x c : ℕ) (ys : List ℕ) → has ys c ≡ true → (c ≡ x → ⊥) → has (without x ys) c ≡ true
left_there x c ys there other = elim (cases_Bool (has (without x ys) c)) [
  | inl left ↦ left
  | inr gone ↦ absurd (other (same_number c x (still (c == x) (filtered_out (λ y. not (y == x)) ys c there gone))))
]
  where
    still : (b : Bool) → not b ≡ false → b ≡ true
    still true e = refl
    still false e = absurd (not_both true refl e)

pub same_numbers : (xs ys : List ℕ) → NoneTwice xs → NoneTwice ys → ((c : ℕ) → has xs c ≡ true → has ys c ≡ true) → ((c : ℕ) → has ys c ≡ true → has xs c ≡ true) → IsPermutation xs ys
same_numbers [] [] once once' to from = IsPermutation-refl []
same_numbers [] (y ∷ ys) once once' to from = absurd (not_both false (from y (or_left (y == y) (has ys y) (self_number y))) refl)
same_numbers (x ∷ xs) ys once once' to from =
    let there : has ys x ≡ true = to x (or_left (x == x) (has xs x) (self_number x)) in
    let rest = without x ys in
    IsPermutation-trans (x ∷ xs) (x ∷ rest) ys
    (IsPermutation-cons x xs rest (same_numbers xs rest once.1 (none_twice_filter (λ y. not (y == x)) ys once')
    (λ c h. left_there x c ys (to c (or_right (x == c) (has xs c) h)) (λ e. not_both (has xs x) (ap (has xs) (sym e) ∙ h) once.0))
    (λ c h. let (old, other) = filter_has (λ y. not (y == x)) ys c h in
    either (x == c) (has xs c) (from c old) (λ e. absurd (not_both (c == x) (ap (λ n. n == x) (sym (same_number x c e)) ∙ self_number x) (not_false (c == x) other))) (λ e. e))))
    (IsPermutation-sym ys (x ∷ rest) (taken_out x ys once' there))
