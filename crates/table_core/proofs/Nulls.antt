-- Numbers with null bits: one more at the end, and the one at a place.
use Rattle.std.proofs.Common.{◌≡◌, ◌∙◌, ◌+◌, ◌*◌, ◌/◌, ◌%◌, ◌^◌, ◌≤◌, ◌<◌, ◌||◌, ◌++◌, ℕ, ℤ, zero, suc, pos, Bool, true, false, Option, Some, None, List, [], ◌∷◌, arith, refl, sym, ap, length, get_or, set, length-set, inl, inr, bit_or, map, is_none}
use Rattle.std.proofs.lemmas.Bool.{cases_Bool, cases_lt, eq-eqb, ne_eqb}
use Rattle.std.proofs.lemmas.List.{get_or_append_left, get_or_default, length-append}
use Rattle.std.proofs.lemmas.List.FromFn.{get_or-map-range_with_len, length-map-range_with_len, map-range_with_len_more, fill_by_all}
use Rattle.std.proofs.Math.Seq.{get_or-append_seam}
use Rattle.std.specs.List.{range_with_len}
use Rattle.table_core.specs.Numbers.{AreNullBits, number_at, number_or_zero, numbers_of}
use Rattle.table_sets.specs.Sets.{bit_of}
use Rattle.table_sets.proofs.Members.{bit_of-insert, no_bits}

-- one more word of zeros changes no bit
get_or-zero : (words : List ℕ) (k : ℕ) → ◌≡◌ {A = ℕ} (get_or (words ++ 0 ∷ []) k 0) (get_or words k 0)
get_or-zero [] zero = refl
get_or-zero [] (suc k) = refl
get_or-zero (w ∷ words) zero = refl
get_or-zero (w ∷ words) (suc k) = get_or-zero words k

pub bit_of-zero : (words : List ℕ) (i : ℕ) → bit_of (words ++ 0 ∷ []) i ≡ bit_of words i
bit_of-zero words i = rw (get_or-zero words (i / 64)) refl

pub no-numbers : AreNullBits [] []
no-numbers = record { enough = omega arith; clear = λ i low. no_bits 0 i; zero_there = λ i set. refl }

-- one function's values are another's
same-map : {X : Type 0} (f g : ℕ → X) (n : ℕ) (d : X) → ((i : ℕ) → i < n → f i ≡ g i) → map f (range_with_len 0 n) ≡ map g (range_with_len 0 n)
same-map f g n d same =
    fill_by_all g (map f (range_with_len 0 n)) n d (length-map-range_with_len f 0 n)
    (λ k low. get_or-map-range_with_len f 0 n k k d low (omega arith) ∙ same k low)

pub numbers-same : (values : List ℤ) (old new : List ℕ) → ((i : ℕ) → bit_of new i ≡ bit_of old i) → numbers_of values new ≡ numbers_of values old
numbers-same values old new same = same-map (number_at values new) (number_at values old) (length values) None (λ i low. rw (same i) refl)

-- one more
numbers-more : (values more : List ℤ) (old new : List ℕ) (last : Option ℤ) → length more ≡ length values + 1
    → ((i : ℕ) → i < length values → number_at more new i ≡ number_at values old i) → number_at more new (length values) ≡ last
    → numbers_of more new ≡ numbers_of values old ++ last ∷ []
numbers-more values more old new last n same at =
    rw (n, map-range_with_len_more (number_at more new) 0 (length values) (length values) (omega arith), at, same-map (number_at more new) (number_at values old) (length values) None same) refl

-- a number more at the end
pub numbers-some : (values : List ℤ) (old new : List ℕ) (number : ℤ) → AreNullBits values old → ((i : ℕ) → bit_of new i ≡ bit_of old i)
    → numbers_of (values ++ number ∷ []) new ≡ numbers_of values old ++ Some number ∷ []
numbers-some values old new number are same =
    numbers-more values (values ++ number ∷ []) old new (Some number) (omega (arith, length-append values (number ∷ [])))
    (λ i low. rw (same i, get_or_append_left values (number ∷ []) (pos 0) i low) refl)
    (rw (same (length values), are.clear (length values) (omega arith), get_or-append_seam values number [] (pos 0)) refl)

pub null-bits-some : (values : List ℤ) (old new : List ℕ) (number : ℤ) → AreNullBits values old → ((i : ℕ) → bit_of new i ≡ bit_of old i) → length values < 64 * length new
    → AreNullBits (values ++ number ∷ []) new
null-bits-some values old new number are same room = record {
  enough = omega (arith, room, length-append values (number ∷ []));
  clear = λ i low. same i ∙ are.clear i (omega (arith, low, length-append values (number ∷ [])));
  zero_there = λ i is. elim (cases_lt i (length values)) [
    | inl before ↦ get_or_append_left values (number ∷ []) (pos 0) i before ∙ are.zero_there i (sym (same i) ∙ is)
    | inr after ↦ (let no : true ≡ false = sym is ∙ same i ∙ are.clear i after in absurd (cc))
  ];
}

-- the words in which the bit of a place is set
abbrev with_null : List ℕ → ℕ → List ℕ
with_null words place = set words (place / 64) (bit_or (get_or words (place / 64) 0) (1 * 2 ^ (place % 64) % 2 ^ 64))

or_false : (a : Bool) → (a || false) ≡ a
or_false true = refl
or_false false = refl

or_true : (a : Bool) → (a || true) ≡ true
or_true true = refl
or_true false = refl

bit-there : (words : List ℕ) (place : ℕ) → place / 64 < length words → bit_of (with_null words place) place ≡ true
bit-there words place room = bit_of-insert words place place room ∙ rw (eq-eqb place place refl) (or_true (bit_of words place))

bit-elsewhere : (words : List ℕ) (place i : ℕ) → place / 64 < length words → (i ≡ place → ⊥) → bit_of (with_null words place) i ≡ bit_of words i
bit-elsewhere words place i room ne = bit_of-insert words place i room ∙ rw (ne_eqb i place ne) (or_false (bit_of words i))

length-with : (words : List ℕ) (place : ℕ) → length (with_null words place) ≡ length words
length-with words place = length-set words (place / 64) _

-- behind the values there are zeros
get_or-last : (values : List ℤ) (i : ℕ) → length values ≤ i → get_or (values ++ pos 0 ∷ []) i (pos 0) ≡ pos 0
get_or-last [] zero past = refl
get_or-last [] (suc i) past = refl
get_or-last (v ∷ values) zero past = absurd (omega arith)
get_or-last (v ∷ values) (suc i) past = get_or-last values i (omega (arith, past))

-- none more at the end
pub numbers-none : (values : List ℤ) (old new : List ℕ) → ((i : ℕ) → bit_of new i ≡ bit_of old i) → length values / 64 < length new
    → numbers_of (values ++ pos 0 ∷ []) (with_null new (length values)) ≡ numbers_of values old ++ None ∷ []
numbers-none values old new same room =
    numbers-more values (values ++ pos 0 ∷ []) old (with_null new (length values)) None (omega (arith, length-append values (pos 0 ∷ [])))
    (λ i low. rw (bit-elsewhere new (length values) i room (λ e. omega (arith, e)), same i, get_or_append_left values (pos 0 ∷ []) (pos 0) i low) refl)
    (rw (bit-there new (length values) room) refl)

pub null-bits-none : (values : List ℤ) (old new : List ℕ) → AreNullBits values old → ((i : ℕ) → bit_of new i ≡ bit_of old i) → length values < 64 * length new
    → AreNullBits (values ++ pos 0 ∷ []) (with_null new (length values))
null-bits-none values old new are same room =
    let inside : length values / 64 < length new = omega (arith, room) in
    record {
      enough = omega (arith, room, length-append values (pos 0 ∷ []), length-with new (length values));
      clear = λ i low. bit-elsewhere new (length values) i inside (λ e. omega (arith, e, low, length-append values (pos 0 ∷ []))) ∙ same i
          ∙ are.clear i (omega (arith, low, length-append values (pos 0 ∷ [])));
      zero_there = λ i is. elim (cases_lt i (length values)) [
        | inl before ↦ get_or_append_left values (pos 0 ∷ []) (pos 0) i before
            ∙ are.zero_there i (sym (bit-elsewhere new (length values) i inside (λ e. omega (arith, e, before)) ∙ same i) ∙ is)
        | inr after ↦ get_or-last values i after
      ];
    }

numbers-at : (values : List ℤ) (nulls : List ℕ) (place : ℕ) → place < length values → get_or (numbers_of values nulls) place None ≡ number_at values nulls place
numbers-at values nulls place low = get_or-map-range_with_len (number_at values nulls) 0 (length values) place place None low (omega arith)

-- what stands at a place
pub none-is : (values : List ℤ) (nulls : List ℕ) (place : ℕ) → place < length values → bit_of nulls place ≡ true → ◌≡◌ {A = Option ℤ} None (get_or (numbers_of values nulls) place None)
none-is values nulls place low set = sym (numbers-at values nulls place low ∙ rw set refl)

pub number-is : (values : List ℤ) (nulls : List ℕ) (place : ℕ) (n : ℤ) → place < length values → bit_of nulls place ≡ false → n ≡ get_or values place n
    → ◌≡◌ {A = Option ℤ} (Some n) (get_or (numbers_of values nulls) place None)
number-is values nulls place n low clear is =
    sym (numbers-at values nulls place low ∙ rw clear (ap (λ z. Some z) (get_or_default values place (pos 0) n low ∙ sym is)))

pub length-numbers : (values : List ℤ) (nulls : List ℕ) → length (numbers_of values nulls) ≡ length values
length-numbers values nulls = length-map-range_with_len (number_at values nulls) 0 (length values)

pub inside : (values : List ℤ) (nulls : List ℕ) (now : List (Option ℤ)) (place : ℕ) → numbers_of values nulls ≡ now → place < length now → place < length values
inside values nulls now place is low = omega (arith, low, length-numbers values nulls, ap length is)

-- what is read at a place: whether there is none, and the number or 0
pub none-at : (values : List ℤ) (nulls : List ℕ) (place : ℕ) → place < length values → bit_of nulls place ≡ is_none (get_or (numbers_of values nulls) place None)
none-at values nulls place low = elim (cases_Bool (bit_of nulls place)) [
  | inl set ↦ set ∙ ap is_none (none-is values nulls place low set)
  | inr clear ↦ clear ∙ ap is_none (number-is values nulls place (get_or values place (pos 0)) low clear (get_or_default values place (pos 0) (get_or values place (pos 0)) low))
]

pub zero-or-number : (values : List ℤ) (nulls : List ℕ) (place : ℕ) (n : ℤ) → AreNullBits values nulls → place < length values → n ≡ get_or values place n
    → n ≡ number_or_zero (get_or (numbers_of values nulls) place None)
zero-or-number values nulls place n are low is = elim (cases_Bool (bit_of nulls place)) [
  | inl set ↦ is ∙ get_or_default values place n (pos 0) low ∙ are.zero_there place set ∙ ap number_or_zero (none-is values nulls place low set)
  | inr clear ↦ ap number_or_zero (number-is values nulls place n low clear is)
]
