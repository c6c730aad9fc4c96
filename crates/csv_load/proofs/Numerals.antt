-- More digits make no smaller number.
use Rattle.std.proofs.Common.{◌≡◌, ◌+◌, ◌-◌, ◌*◌, ◌^◌, ◌≤◌, ◌<◌, ◌&&◌, ◌==◌, ℕ, List, [], ◌∷◌, arith, Bool, true, false, inl, inr, refl, None, length, get_or, nat_lt}
use Rattle.std.specs.Char.{is_ascii_digit}
use Rattle.std.proofs.lemmas.Bool.{cases_Bool}
use Rattle.std.proofs.lemmas.Bool.Decides.{nat_tests}
use Rattle.csv_load.specs.Number.{digits_from, made, rest_read, unsigned_read, is_whole_part}

pub digits_from-ge : (n : ℕ) (cs : List ℕ) → n ≤ (digits_from n cs).0
digits_from-ge n [] = omega arith
digits_from-ge n (c ∷ cs) = elim (cases_Bool (is_ascii_digit c)) [
  | inl so ↦ rw so (omega (arith, digits_from-ge (n * 10 + (c - 48)) cs))
  | inr not ↦ rw not (omega arith)
]

pub too_big : (n : ℕ) (cs : List ℕ) → 1 ≤ length cs → is_ascii_digit (get_or cs 0 0) ≡ true → 922337203685477580 < n → 2 ^ 63 < (digits_from n cs).0
too_big n [] some digit big = absurd (omega arith)
too_big n (c ∷ cs) some digit big = rw digit (omega (arith, digits_from-ge (n * 10 + (c - 48)) cs))

pub made-none : (minus : Bool) (n places : ℕ) → 2 ^ 63 < n → made minus n places ≡ None
made-none true n places big = grind (arith, nat_tests)
made-none false n places big = grind (arith, nat_tests)

pub rest-none : (minus : Bool) (n : ℕ) (left : List ℕ) → 2 ^ 63 < n → rest_read minus n left ≡ None
rest-none minus n [] big = made-none minus n 0 big
rest-none minus n (c ∷ after) big =
    let m = made-none minus (digits_from n after).0 (length after) (omega (arith, digits_from-ge n after)) in
    elim (cases_Bool ((c == 46) && (length (digits_from n after).1 == 0) && nat_lt 0 (length after) && nat_lt (length after) 10)) [
      | inl so ↦ rw so m
      | inr not ↦ rw not refl
    ]

pub unsigned-none : (minus : Bool) (text : List ℕ) → 2 ^ 63 < (digits_from 0 text).0 → unsigned_read minus text ≡ None
unsigned-none minus text big = elim (cases_Bool (is_whole_part text (length (digits_from 0 text).1))) [
  | inl so ↦ rw so (rest-none minus (digits_from 0 text).0 (digits_from 0 text).1 big)
  | inr not ↦ rw not refl
]
