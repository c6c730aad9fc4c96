-- A number that a field spells has at most 9 places and 64 bits.
use Rattle.std.proofs.Common.{◌≡◌, ◌≤◌, ◌^◌, ◌&&◌, ◌==◌, ℕ, zero, suc, refl, List, [], ◌∷◌, arith, length, Bool, true, false, inl, inr, nat_lt}
use Rattle.std.specs.Prelude.{Option, Some, None, IfSome, pos, neg_ℤ}
use Rattle.std.proofs.lemmas.Bool.{cases_Bool}
use Rattle.std.proofs.lemmas.Bool.Decides.{nat_tests}
use Rattle.csv_load.specs.Number.{made, rest_read, unsigned_read, number_read, is_whole_part, digits_from, fits_i64}
use Rattle.csv_load.specs.declared.number.Number.{Number}

pub record IsSmall (n : Number) : Type 0 where
  pub few : n.places ≤ 9
  pub fits : fits_i64 n.value ≡ true

abbrev pub AreSmall : Option Number → Type 0
AreSmall o = IfSome o IsSmall

fits_below : (n : ℕ) → n ≤ 2 ^ 63 → fits_i64 (neg_ℤ (pos n)) ≡ true
fits_below zero low = refl
fits_below (suc n) low = grind (arith, nat_tests)

small-made : (minus : Bool) (n places : ℕ) → places ≤ 9 → AreSmall (made minus n places)
small-made true n places small = elim (cases_Bool (nat_lt (2 ^ 63) n)) [ inl so ↦ rw so tt | inr not ↦ rw not (record { few = small; fits = fits_below n (grind (arith, nat_tests)) }) ]
small-made false n places small = elim (cases_Bool (nat_lt n (2 ^ 63))) [ inl so ↦ rw so (record { few = small; fits = so }) | inr not ↦ rw not tt ]

ten : (a b : Bool) (n : ℕ) → (a && b && nat_lt 0 n && nat_lt n 10) ≡ true → n ≤ 9
ten a b n e = elim (cases_Bool (nat_lt n 10)) [ inl so ↦ grind (arith, nat_tests) | inr not ↦ absurd (grind (arith, nat_tests)) ]

small-rest : (minus : Bool) (whole : ℕ) (left : List ℕ) → AreSmall (rest_read minus whole left)
small-rest minus whole [] = small-made minus whole 0 (omega arith)
small-rest minus whole (c ∷ after) =
    elim (cases_Bool ((c == 46) && (length (digits_from whole after).1 == 0) && nat_lt 0 (length after) && nat_lt (length after) 10)) [
      | inl so ↦ rw so (small-made minus (digits_from whole after).0 (length after) (ten (c == 46) (length (digits_from whole after).1 == 0) (length after) so))
      | inr not ↦ rw not tt
    ]

small-unsigned : (minus : Bool) (text : List ℕ) → AreSmall (unsigned_read minus text)
small-unsigned minus text = elim (cases_Bool (is_whole_part text (length (digits_from 0 text).1))) [
  | inl so ↦ rw so (small-rest minus (digits_from 0 text).0 (digits_from 0 text).1)
  | inr not ↦ rw not tt
]

pub small-number : (field : List ℕ) → AreSmall (number_read field)
small-number [] = tt
small-number (c ∷ cs) = elim (cases_Bool (c == 45)) [
  | inl so ↦ rw so (small-unsigned true cs)
  | inr not ↦ rw not (small-unsigned false (c ∷ cs))
]

few-of : (o : Option Number) → AreSmall o → IfSome o (λ n. n.places ≤ 9)
few-of None small = tt
few-of (Some n) small = small.few

pub few-number : (field : List ℕ) → IfSome (number_read field) (λ n. n.places ≤ 9)
few-number field = few-of (number_read field) (small-number field)
