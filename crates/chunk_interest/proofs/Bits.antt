-- The numbers whose bits are set in two lists of words.
use Rattle.std.proofs.Common.{◌≡◌, ◌∙◌, ◌<◌, ◌/◌, ◌%◌, ◌==◌, ◌&&◌, ◌||◌, ◌∷◌, [], ℕ, zero, suc, List, min, max, get_or, bit_and, bit_or, refl, ap, arith, inl, inr}
use Rattle.std.proofs.lemmas.Bool.{cases_lt, lt-ltb, le-ltb}
use Rattle.std.proofs.lemmas.Bool.Decides.{nat_tests}
use Rattle.std.proofs.lemmas.Nat.Bits.{bit_at_and, bit_at_or, bit_at-lt}
use Rattle.std.specs.Int.{bit_at}
use Rattle.std.specs.Int.Bits.{and_zero_l}
use Rattle.std.proofs.lemmas.Nat.{and_le_l}
use Rattle.scan_story.specs.Counting.{has}
use Rattle.table_sets.specs.Sets.{bit_of, numbers_below}
use Rattle.table_sets.proofs.Members.{has-numbers}

one_of : (u v : ℕ) → u < 2 → v < 2 → (min u v == 1) ≡ (u == 1 && v == 1)
one_of u v a b = grind (arith, nat_tests, a, b)

bit_both : (a b w : List ℕ) (x : ℕ) → get_or w (x / 64) 0 ≡ bit_and (get_or a (x / 64) 0) (get_or b (x / 64) 0) → bit_of w x ≡ (bit_of a x && bit_of b x)
bit_both a b w x is =
    let i = x % 64 in
    let m = get_or a (x / 64) 0 in
    let n = get_or b (x / 64) 0 in
    ap (λ (k : ℕ). bit_at k i == 1) is ∙ (ap (λ (k : ℕ). k == 1) (bit_at_and m n i) ∙ one_of (bit_at m i) (bit_at n i) (bit_at-lt m i) (bit_at-lt n i))

some_of : (u v : ℕ) → u < 2 → v < 2 → (max u v == 1) ≡ (u == 1 || v == 1)
some_of u v a b = grind (arith, nat_tests, a, b)

bit_either : (a b w : List ℕ) (x : ℕ) → get_or w (x / 64) 0 ≡ bit_or (get_or a (x / 64) 0) (get_or b (x / 64) 0) → bit_of w x ≡ (bit_of a x || bit_of b x)
bit_either a b w x is =
    let i = x % 64 in
    let m = get_or a (x / 64) 0 in
    let n = get_or b (x / 64) 0 in
    ap (λ (k : ℕ). bit_at k i == 1) is ∙ (ap (λ (k : ℕ). k == 1) (bit_at_or m n i) ∙ some_of (bit_at m i) (bit_at n i) (bit_at-lt m i) (bit_at-lt n i))

pub below_both : (a b n : ℕ) → a < n → bit_and a b < n
below_both a b n lt = let le = and_le_l a b in omega (arith, le, lt)

pub no_both : (a b : ℕ) → a ≡ 0 → bit_and a b ≡ 0
no_both a b e = ap (λ (x : ℕ). bit_and x b) e ∙ and_zero_l b

-- the words of five whose bits are set in both
abbrev pub and_at : List ℕ → List ℕ → ℕ → ℕ
and_at a b j = bit_and (get_or a j 0) (get_or b j 0)

abbrev pub words_of_both : List ℕ → List ℕ → List ℕ
words_of_both a b = and_at a b 0 ∷ and_at a b 1 ∷ and_at a b 2 ∷ and_at a b 3 ∷ and_at a b 4 ∷ []

pub word_of_both : (a b : List ℕ) (j : ℕ) → j < 5 → get_or (words_of_both a b) j 0 ≡ bit_and (get_or a j 0) (get_or b j 0)
word_of_both a b zero lt = refl
word_of_both a b (suc zero) lt = refl
word_of_both a b (suc (suc zero)) lt = refl
word_of_both a b (suc (suc (suc zero))) lt = refl
word_of_both a b (suc (suc (suc (suc zero)))) lt = refl
word_of_both a b (suc (suc (suc (suc (suc j))))) lt = absurd (omega (arith, lt))

pub has_both : (a b w : List ℕ) (x : ℕ) → ((j : ℕ) → j < 5 → get_or w j 0 ≡ bit_and (get_or a j 0) (get_or b j 0))
    → has (numbers_below (bit_of w) 320) x ≡ (has (numbers_below (bit_of a) 320) x && has (numbers_below (bit_of b) 320) x)
has_both a b w x each = elim (cases_lt x 320) [
  | inl lt ↦ rw (has-numbers (bit_of w) 320 x, has-numbers (bit_of a) 320 x, has-numbers (bit_of b) 320 x, lt-ltb x 320 lt) (bit_both a b w x (each (x / 64) (omega (arith, lt))))
  | inr ge ↦ rw (has-numbers (bit_of w) 320 x, has-numbers (bit_of a) 320 x, has-numbers (bit_of b) 320 x, le-ltb x 320 ge) refl
]

pub has_either : (a b w : List ℕ) (x : ℕ) → ((j : ℕ) → j < 5 → get_or w j 0 ≡ bit_or (get_or a j 0) (get_or b j 0))
    → has (numbers_below (bit_of w) 320) x ≡ (has (numbers_below (bit_of a) 320) x || has (numbers_below (bit_of b) 320) x)
has_either a b w x each = elim (cases_lt x 320) [
  | inl lt ↦ rw (has-numbers (bit_of w) 320 x, has-numbers (bit_of a) 320 x, has-numbers (bit_of b) 320 x, lt-ltb x 320 lt) (bit_either a b w x (each (x / 64) (omega (arith, lt))))
  | inr ge ↦ rw (has-numbers (bit_of w) 320 x, has-numbers (bit_of a) 320 x, has-numbers (bit_of b) 320 x, le-ltb x 320 ge) refl
]
