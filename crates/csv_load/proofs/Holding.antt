-- The kind of a column depends on which fields it has, and not on their order and number.
use Rattle.std.proofs.Common.{◌≡◌, ◌≢◌, ◌∙◌, ◌-◌, ◌≤◌, ◌&&◌, ℕ, List, [], ◌∷◌, arith, refl, sym, Bool, true, false, inl, inr, nat_lt, max}
use Rattle.std.specs.Prelude.{MatchOption, Option, Some, None, All, Contains, ◌⊎◌, pos, ℤ, ◌*ℤ◌}
use Rattle.std.specs.List.{list_all}
use Rattle.std.proofs.Math.IntN.{*ℤ-one, one}
use Rattle.std.proofs.lemmas.Bool.{cases_Bool, and_parts}
use Rattle.std.proofs.lemmas.Bool.Decides.{nat_tests}
use Rattle.std.proofs.lemmas.List.Elements.{All-nil, All-cons, All-head, All-tail, All-weaker, All-contains}
use Rattle.std.specs.Cmp.{both_ways}
use Rattle.csv_load.specs.Number.{number_read, fits_i64}
use Rattle.csv_load.specs.declared.number.Number.{Number}
use Rattle.csv_load.specs.Kinds.{is_plain, is_whole, is_decimal, is_of, places_in, most_places, scaled, fits_places, kind_of, value_as}
use Rattle.csv_load.proofs.Few.{small-number, AreSmall}
use Rattle.table_core.specs.declared.schema.Kind.{Kind}
use Rattle.table_core.specs.declared.schema.Kind.TheVariants.{Int, Text, Dec}
use Rattle.table_core.specs.Columns.{number_cell}
use Rattle.table_core.specs.Value.{FitsColumn, number, places_of, value_in}

pub times-one : (z : ℤ) → z *ℤ pos 1 ≡ z
unfolding one
times-one z = *ℤ-one z

plain-fits : (o : Option Number) → AreSmall o → is_plain o ≡ true → fits_places 0 o ≡ true
plain-fits None small plain = plain
plain-fits (Some n) small plain =
    let flat : n.places ≡ 0 = grind (arith, nat_tests) in
    let none_more : 0 - n.places ≡ 0 = omega (arith, flat) in
    rw (none_more, times-one n.value) small.fits

-- what a column of numbers holds has 64 bits with its places
pub of-decimal : (kind : Kind) (field : List ℕ) → kind ≢ Text → is_of kind field ≡ true → is_decimal (places_of kind) field ≡ true
of-decimal Int [] numbers of = refl
of-decimal Int (c ∷ cs) numbers of = plain-fits (number_read (c ∷ cs)) (small-number (c ∷ cs)) of
of-decimal Text field numbers of = absurd (numbers refl)
of-decimal (Dec places) field numbers of = of

pub value-number : (kind : Kind) (field : List ℕ) (n : Number) → kind ≢ Text → number_read field ≡ Some n → number (scaled (places_of kind) n) ≡ value_as kind field
value-number kind [] n numbers e = absurd (cc)
value-number Int (c ∷ cs) n numbers e = rw e refl
value-number Text (c ∷ cs) n numbers e = absurd (numbers refl)
value-number (Dec places) (c ∷ cs) n numbers e = rw e refl

-- a number that doesn't fit isn't what the column holds
value-over : (kind : Kind) (field : List ℕ) (n : Number) → kind ≢ Text → number_read field ≡ Some n → fits_i64 (scaled (places_of kind) n) ≡ false → is_of kind field ≡ true → ⊥
value-over kind [] n numbers e over of = absurd (cc)
value-over kind (c ∷ cs) n numbers e over of =
    let fits : fits_places (places_of kind) (Some n) ≡ true = rw e at (of-decimal kind (c ∷ cs) numbers of) in
    let no : false ≡ true = sym over ∙ fits in cc

-- a number that is scaled to a column's places is the cell of its field
pub scaled-cell : (kind : Kind) (field : List ℕ) (n : Number) (o : Option ℤ) → kind ≢ Text → number_read field ≡ Some n
    → MatchOption o (fits_i64 (scaled (places_of kind) n) ≡ false) (λ z. (z ≡ scaled (places_of kind) n) × (fits_i64 (scaled (places_of kind) n) ≡ true))
    → is_of kind field ≡ true → (dict : List (List ℕ)) → value_in dict (number_cell o) ≡ value_as kind field
scaled-cell kind field n None numbers e over of dict = absurd (value-over kind field n numbers e over of)
scaled-cell kind field n (Some z) numbers e is of dict = rw is.0 (value-number kind field n numbers e)

pub scaled-fits : (kind : Kind) (o : Option ℤ) → kind ≢ Text → (dict : List (List ℕ)) → FitsColumn kind dict (number_cell o)
scaled-fits kind None numbers dict = tt
scaled-fits kind (Some z) numbers dict = numbers

-- the same texts in any order and any number: each field is empty or among them, and each of them is a field
pub record AreSame (fields texts : List (List ℕ)) : Type 0 where
  pub there : All (λ f. (f ≡ []) ⊎ Contains texts f) fields
  pub named : All (Contains fields) texts

to-all : (p : List ℕ → Bool) (xs : List (List ℕ)) → list_all p xs ≡ true → All (λ x. p x ≡ true) xs
to-all p [] all = All-nil (λ (x : List ℕ). p x ≡ true)
to-all p (y ∷ ys) all =
    let parts = and_parts (p y) (list_all p ys) all in
    All-cons (λ (x : List ℕ). p x ≡ true) y ys parts.0 (to-all p ys parts.1)

pub all-of : (p : List ℕ → Bool) (xs : List (List ℕ)) (x : List ℕ) → list_all p xs ≡ true → Contains xs x → p x ≡ true
all-of p xs x all found = All-contains (λ (x : List ℕ). p x ≡ true) xs x (to-all p xs all) found

pub from-all : (p : List ℕ → Bool) (xs : List (List ℕ)) → All (λ x. p x ≡ true) xs → list_all p xs ≡ true
from-all p [] all = refl
from-all p (y ∷ ys) all = rw (All-head (λ x. p x ≡ true) y ys all) (from-all p ys (All-tail (λ x. p x ≡ true) y ys all))

-- a test that empty fields pass has one answer
same-all : (p : List ℕ → Bool) (fields texts : List (List ℕ)) → p [] ≡ true → AreSame fields texts → list_all p fields ≡ list_all p texts
same-all p fields texts empty same = both_ways (list_all p fields) (list_all p texts)
    (λ all. from-all p texts (All-weaker (Contains fields) (λ x. p x ≡ true) (λ x found. all-of p fields x all found) texts same.named))
    (λ all. from-all p fields (All-weaker (λ f. (f ≡ []) ⊎ Contains texts f) (λ x. p x ≡ true)
    (λ x here. elim here [ inl empty_field ↦ rw empty_field empty | inr found ↦ all-of p texts x all found ]) fields same.there))

each-above : (xs : List (List ℕ)) → All (λ x. places_in (number_read x) ≤ most_places xs) xs
each-above [] = All-nil (λ (x : List ℕ). places_in (number_read x) ≤ 0)
each-above (y ∷ ys) =
    let top = max (places_in (number_read y)) (most_places ys) in
    All-cons (λ (x : List ℕ). places_in (number_read x) ≤ top) y ys (omega arith)
    (All-weaker (λ (x : List ℕ). places_in (number_read x) ≤ most_places ys) (λ (x : List ℕ). places_in (number_read x) ≤ top) (λ x low. omega (arith, low)) ys (each-above ys))

pub most-above : (xs : List (List ℕ)) (x : List ℕ) → Contains xs x → places_in (number_read x) ≤ most_places xs
most-above xs x found = All-contains (λ (x : List ℕ). places_in (number_read x) ≤ most_places xs) xs x (each-above xs) found

pub most-within : (xs : List (List ℕ)) (top : ℕ) → All (λ x. places_in (number_read x) ≤ top) xs → most_places xs ≤ top
most-within [] top all = omega arith
most-within (y ∷ ys) top all = omega (arith, All-head (λ x. places_in (number_read x) ≤ top) y ys all, most-within ys top (All-tail (λ x. places_in (number_read x) ≤ top) y ys all))

same-most : (fields texts : List (List ℕ)) → AreSame fields texts → most_places fields ≡ most_places texts
same-most fields texts same =
    let low = most-within fields (most_places texts) (All-weaker (λ f. (f ≡ []) ⊎ Contains texts f) (λ x. places_in (number_read x) ≤ most_places texts)
    (λ x here. elim here [ inl empty_field ↦ rw empty_field (omega arith) | inr found ↦ most-above texts x found ]) fields same.there) in
    let high = most-within texts (most_places fields) (All-weaker (Contains fields) (λ x. places_in (number_read x) ≤ most_places fields) (most-above fields) texts same.named) in
    omega (arith, low, high)

-- so one kind
pub same-kind : (fields texts : List (List ℕ)) → AreSame fields texts → kind_of fields ≡ kind_of texts
same-kind fields texts same =
    rw (same-all is_whole fields texts refl same, same-most fields texts same, same-all (is_decimal (most_places texts)) fields texts refl same) refl

always : (fields : List (List ℕ)) → list_all (λ (f : List ℕ). true) fields ≡ true
always [] = refl
always (f ∷ fs) = always fs

-- each field is what the column holds
pub holds : (fields : List (List ℕ)) → All (λ f. is_of (kind_of fields) f ≡ true) fields
holds fields = elim (cases_Bool (list_all is_whole fields)) [
  | inl so ↦ rw so (to-all is_whole fields so)
  | inr not ↦ rw not (elim (cases_Bool (nat_lt 0 (most_places fields) && list_all (is_decimal (most_places fields)) fields)) [
    | inl so ↦ rw so (to-all (is_decimal (most_places fields)) fields (and_parts (nat_lt 0 (most_places fields)) (list_all (is_decimal (most_places fields)) fields) so).1)
    | inr other ↦ rw other (to-all (λ (f : List ℕ). true) fields (always fields))
  ])
]
