-- Counting over the first rows, and over one more.
use Rattle.std.proofs.Common.{◌≡◌, ◌<◌, ◌≤◌, ◌+◌, ℕ, Bool, true, false, List, [], ◌∷◌, length, get_or, take, refl, ap, ◌∙◌, arith, length-append}
use Rattle.std.specs.Prelude.{filter, map}
use Rattle.std.proofs.lemmas.List.{take_more, take_all, map-append}
use Rattle.std.proofs.lemmas.List.Elements.{filter-append}

-- how many of the first rows pass the test
abbrev pub passed : {A B : Type 0} → (A → B) → (B → Bool) → List A → ℕ → ℕ
passed f p rows i = length (filter p (map f (take i rows)))

pub passed_all : {A B : Type 0} (f : A → B) (p : B → Bool) (rows : List A) (i : ℕ) → length rows ≤ i → passed f p rows i ≡ length (filter p (map f rows))
passed_all f p rows i high = ap (λ xs. length (filter p (map f xs))) (take_all i rows high)

one_more : {A B : Type 0} (f : A → B) (p : B → Bool) (rows : List A) (i : ℕ) (d : A) → i < length rows
    → passed f p rows (i + 1) ≡ passed f p rows i + length (filter p (f (get_or rows i d) ∷ []))
one_more f p rows i d low =
    ap (λ xs. length (filter p (map f xs))) (take_more rows i d low)
    ∙ ap (λ xs. length (filter p xs)) (map-append f (take i rows) (get_or rows i d ∷ []))
    ∙ ap length (filter-append p (map f (take i rows)) (f (get_or rows i d) ∷ []))
    ∙ length-append (filter p (map f (take i rows))) (filter p (f (get_or rows i d) ∷ []))

pub passed_more : {A B : Type 0} (f : A → B) (p : B → Bool) (rows : List A) (i : ℕ) (d : A) → i < length rows → p (f (get_or rows i d)) ≡ true → passed f p rows (i + 1) ≡ passed f p rows i + 1
passed_more f p rows i d low passes = one_more f p rows i d low ∙ rw passes refl

pub passed_same : {A B : Type 0} (f : A → B) (p : B → Bool) (rows : List A) (i : ℕ) (d : A) → i < length rows → p (f (get_or rows i d)) ≡ false → passed f p rows (i + 1) ≡ passed f p rows i
passed_same f p rows i d low fails = one_more f p rows i d low ∙ rw fails (omega arith)
