-- The first words of a piece.
use Rattle.std.proofs.Common.{◌≡◌, ◌<◌, ◌∷◌, ℕ, zero, suc, List, [], length, get_or, arith, refl, sym, ◌∙◌, inl, inr}
use Rattle.std.proofs.lemmas.Bool.{cases_lt}
use Rattle.std.proofs.lemmas.List.{length-append, get_or_append_left, get_or_at}
use Rattle.std.proofs.lemmas.Grind.{same_number_lists}
use Rattle.frame_rows.specs.Tables.{first_words}

pub length-first : (word : ℕ → ℕ) (n : ℕ) → length (first_words word n) ≡ n
length-first word zero = refl
length-first word (suc n) = let r = length-first word n in let e = length-append (first_words word n) (word n ∷ []) in omega (arith, r, e)

pub first-at : (word : ℕ → ℕ) (n i : ℕ) → i < n → get_or (first_words word n) i 0 ≡ word i
first-at word zero i low = absurd (omega arith)
first-at word (suc n) i low = elim (cases_lt i n) [
  | inl less ↦ get_or_append_left (first_words word n) (word n ∷ []) 0 i (rw (length-first word n) less) ∙ first-at word n i less
  | inr last ↦ let is : i ≡ n = omega (arith, low, last) in rw is (get_or_at (first_words word n) (word n) [] 0 n (length-first word n))
]

-- a list is the first words where it is as long and has each of them
pub first-is : (word : ℕ → ℕ) (n : ℕ) (words : List ℕ) → length words ≡ n → ((i : ℕ) → i < n → word i ≡ get_or words i 0) → words ≡ first_words word n
first-is word n words long same =
    same_number_lists words (first_words word n) (long ∙ sym (length-first word n))
    (λ k low. (let less : k < n = omega (arith, low, long) in sym (same k less) ∙ sym (first-at word n k less)))
