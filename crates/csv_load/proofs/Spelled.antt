-- A number of 64 bits with so many places is spelled in one way: by its digits, without a zero before them, and a sign where
-- it is below zero.
use Rattle.std.proofs.Common.{◌≡◌, ◌∙◌, ◌+◌, ◌-◌, ◌*◌, ◌/◌, ◌%◌, ◌^◌, ◌<◌, ◌≤◌, ◌++◌, ◌==◌, ◌&&◌, ℕ, zero, suc, List, [], ◌∷◌, arith, refl, sym, ap, length, Bool, true, false, inl, inr, nat_lt, append_assoc}
use Rattle.std.specs.Prelude.{ℤ, pos, negsuc, Option, Some, None, decimal, if◌then◌else◌}
use Rattle.std.specs.Char.{is_ascii_digit}
use Rattle.std.specs.Fmt.{signed_decimal}
use Rattle.std.proofs.Math.Nat.{div-div-eq-div-mul, pow-suc}
use Rattle.std.proofs.lemmas.Fmt.{decimal_digit, decimal_step}
use Rattle.std.proofs.lemmas.Bool.{cases_Bool, cases_lt}
use Rattle.std.proofs.lemmas.Bool.Decides.{nat_tests}
use Rattle.std.proofs.lemmas.List.{append-nil, nil_from_length}
use Rattle.csv_load.specs.Number.{digits_from, is_whole_part, made, rest_read, unsigned_read, number_read}
use Rattle.csv_load.specs.declared.number.Number.{Number}
use Rattle.csv_load.proofs.Numerals.{digits_from-ge}
use Rattle.table_core.specs.Value.{last_digits, number_text, unsigned_text}

-- one digit more
digit-push : (n c : ℕ) → 0 < n → is_ascii_digit c ≡ true → n * 10 + (c - 48) < 2 ^ 64 → decimal (n * 10 + (c - 48)) ≡ decimal n ++ c ∷ []
digit-push n c some digit small =
    let low : (48 ≤ c) × (c ≤ 57) = grind (arith, nat_tests, digit) in
    let front : (n * 10 + (c - 48)) / 10 ≡ n = omega (arith, low.0, low.1) in
    let last : 48 + (n * 10 + (c - 48)) % 10 ≡ c = omega (arith, low.0, low.1) in
    decimal_step (n * 10 + (c - 48)) (omega (arith, some)) small ∙ rw (front, last) refl

-- the digits behind a number are the last ones of what they make of it
digits-spelled : (n : ℕ) (cs : List ℕ) (v : ℕ) (left : List ℕ) → 0 < n → v < 2 ^ 64 → digits_from n cs ≡ (v, left) → decimal v ++ left ≡ decimal n ++ cs
digits-spelled n [] v left some small e =
    let same : n ≡ v = ap (λ (p : ℕ × List ℕ). p.0) e in
    let none : [] ≡ left = ap (λ (p : ℕ × List ℕ). p.1) e in
    rw (← same, ← none) refl
digits-spelled n (c ∷ cs) v left some small e = elim (cases_Bool (is_ascii_digit c)) [
  | inl so ↦
      let d : digits_from (n * 10 + (c - 48)) cs ≡ (v, left) = rw so at e in
      let below : n * 10 + (c - 48) ≤ v = rw (ap (λ (p : ℕ × List ℕ). p.0) d) at (digits_from-ge (n * 10 + (c - 48)) cs) in
      digits-spelled (n * 10 + (c - 48)) cs v left (omega (arith, some)) small d
      ∙ ap (λ (l : List ℕ). l ++ cs) (digit-push n c some so (omega (arith, below, small))) ∙ append_assoc (decimal n) (c ∷ []) cs
  | inr other ↦
      let f : (n, c ∷ cs) ≡ (v, left) = rw other at e in
      let same : n ≡ v = ap (λ (p : ℕ × List ℕ). p.0) f in
      let rest : c ∷ cs ≡ left = ap (λ (p : ℕ × List ℕ). p.1) f in
      rw (← same, ← rest) refl
]

digits-short : (n : ℕ) (cs : List ℕ) → length (digits_from n cs).1 ≤ length cs
digits-short n [] = omega arith
digits-short n (c ∷ cs) = elim (cases_Bool (is_ascii_digit c)) [
  | inl so ↦ rw so (omega (arith, digits-short (n * 10 + (c - 48)) cs))
  | inr other ↦ rw other (omega arith)
]

-- where all is left, there was no digit
digits-none : (n : ℕ) (cs : List ℕ) (v : ℕ) (left : List ℕ) → digits_from n cs ≡ (v, left) → length left ≡ length cs → (v ≡ n) × (left ≡ cs)
digits-none n [] v left e all = (sym (ap (λ (p : ℕ × List ℕ). p.0) e), sym (ap (λ (p : ℕ × List ℕ). p.1) e))
digits-none n (c ∷ cs) v left e all = elim (cases_Bool (is_ascii_digit c)) [
  | inl so ↦
      let d : digits_from (n * 10 + (c - 48)) cs ≡ (v, left) = rw so at e in
      let short : length left ≤ length cs = rw (ap (λ (p : ℕ × List ℕ). p.1) d) at (digits-short (n * 10 + (c - 48)) cs) in
      absurd (omega (arith, short, all))
  | inr other ↦
      let f : (n, c ∷ cs) ≡ (v, left) = rw other at e in
      (sym (ap (λ (p : ℕ × List ℕ). p.0) f), sym (ap (λ (p : ℕ × List ℕ). p.1) f))
]

-- the same, where the first digit is known
first-spelled : (c : ℕ) (cs : List ℕ) (v : ℕ) (left : List ℕ) → v < 2 ^ 64 → decimal (c - 48) ≡ c ∷ [] → digits_from (c - 48) cs ≡ (v, left) → 48 ≤ c
    → is_whole_part (c ∷ cs) (length left) ≡ true → c ∷ cs ≡ decimal v ++ left
first-spelled c cs v left small one d low part = elim (cases_lt 0 (c - 48)) [
  | inl some ↦ sym (digits-spelled (c - 48) cs v left some small d ∙ rw one refl)
  | inr none ↦
      let zero_first : c ≡ 48 = omega (arith, low, none) in
      let all : length left ≡ length cs = grind (arith, nat_tests, part, zero_first) in
      let rest = digits-none (c - 48) cs v left d all in
      rw (rest.0, rest.1, one) refl
]

-- digits without a zero before them are the text of what they are worth
all-spelled : (text : List ℕ) (v : ℕ) (left : List ℕ) → v < 2 ^ 64 → digits_from 0 text ≡ (v, left) → is_whole_part text (length left) ≡ true → text ≡ decimal v ++ left
all-spelled [] v left small e part = absurd (cc part)
all-spelled (c ∷ cs) v left small e part = elim (cases_Bool (is_ascii_digit c)) [
  | inl so ↦
      let low : (48 ≤ c) × (c ≤ 57) = grind (arith, nat_tests, so) in
      let zero_more : 0 * 10 + (c - 48) ≡ c - 48 = omega arith in
      let d : digits_from (c - 48) cs ≡ (v, left) = rw zero_more at (rw so at e) in
      let one : decimal (c - 48) ≡ c ∷ [] = decimal_digit (c - 48) (omega (arith, low.1)) ∙ (let same : 48 + (c - 48) ≡ c = omega (arith, low.0) in rw same refl) in
      first-spelled c cs v left small one d low.0 part
  | inr other ↦
      let f : (0, c ∷ cs) ≡ (v, left) = rw other at e in
      let rest : length (c ∷ cs) ≡ length left = ap (λ (p : ℕ × List ℕ). length p.1) f in
      absurd (grind (arith, nat_tests, part, rest))
]

-- the first of the last digits
last-front : (k v : ℕ) → last_digits (suc k) v ≡ (48 + v / 10 ^ k % 10) ∷ last_digits k v
last-front zero v = let whole : v / 1 ≡ v = omega arith in rw whole refl
last-front (suc k) v =
    let power : 10 * 10 ^ k ≡ 10 ^ suc k = omega (arith, pow-suc 10 k) in
    let front : v / 10 / 10 ^ k ≡ v / 10 ^ suc k = div-div-eq-div-mul v 10 (10 ^ k) ∙ ap (λ (n : ℕ). v / n) power in
    ap (λ (l : List ℕ). l ++ (48 + v % 10) ∷ []) (last-front k (v / 10)) ∙ rw front refl

-- digits behind a number are the last digits of what they make of it, and the number is what stands before them
after-spelled : (w : ℕ) (cs : List ℕ) (v : ℕ) → digits_from w cs ≡ (v, []) → (last_digits (length cs) v ≡ cs) × (v / 10 ^ length cs ≡ w)
after-spelled w [] v e =
    let same : w ≡ v = ap (λ (p : ℕ × List ℕ). p.0) e in
    let whole : v / 1 ≡ w = omega (arith, same) in
    (refl, whole)
after-spelled w (c ∷ cs) v e = elim (cases_Bool (is_ascii_digit c)) [
  | inl so ↦
      let low : (48 ≤ c) × (c ≤ 57) = grind (arith, nat_tests, so) in
      let d : digits_from (w * 10 + (c - 48)) cs ≡ (v, []) = rw so at e in
      let rest = after-spelled (w * 10 + (c - 48)) cs v d in
      let digit : 48 + (w * 10 + (c - 48)) % 10 ≡ c = omega (arith, low.0, low.1) in
      let front : (w * 10 + (c - 48)) / 10 ≡ w = omega (arith, low.0, low.1) in
      let power : 10 ^ length cs * 10 ≡ 10 ^ suc (length cs) = omega (arith, pow-suc 10 (length cs)) in (
        last-front (length cs) v ∙ rw (rest.1, rest.0, digit) refl,
        ap (λ (n : ℕ). v / n) (sym power) ∙ sym (div-div-eq-div-mul v (10 ^ length cs) 10) ∙ rw (rest.1, front) refl,
      )
  | inr other ↦ let f : (w, c ∷ cs) ≡ (v, []) = rw other at e in absurd (cc (ap (λ (p : ℕ × List ℕ). p.1) f))
]

unsigned-point : (places n : ℕ) → 0 < places → unsigned_text places n ≡ decimal (n / 10 ^ places) ++ (46 ∷ last_digits places n)
unsigned-point zero n some = absurd (omega (arith, some))
unsigned-point (suc places) n some = refl

made-places : (minus : Bool) (n places : ℕ) (m : Number) → made minus n places ≡ Some m → m.places ≡ places
made-places true n places m e = elim (cases_Bool (nat_lt (2 ^ 63) n)) [ inl so ↦ absurd (cc (rw so at e)) | inr other ↦ grind (arith, rw other at e) ]
made-places false n places m e = elim (cases_Bool (nat_lt n (2 ^ 63))) [ inl so ↦ grind (arith, rw so at e) | inr other ↦ absurd (cc (rw other at e)) ]

made-small : (minus : Bool) (n places : ℕ) (m : Number) → made minus n places ≡ Some m → n < 2 ^ 64
made-small true n places m e = elim (cases_Bool (nat_lt (2 ^ 63) n)) [ inl so ↦ absurd (cc (rw so at e)) | inr other ↦ grind (arith, nat_tests, other) ]
made-small false n places m e = elim (cases_Bool (nat_lt n (2 ^ 63))) [ inl so ↦ grind (arith, nat_tests, so) | inr other ↦ absurd (cc (rw other at e)) ]

made-at : (minus : Bool) (n places p : ℕ) (m : Number) → p ≡ places → made minus n places ≡ Some m → made minus n p ≡ Some m
made-at minus n places p m e here = rw e here

-- what is made of a number's digits, and its text without a sign
abbrev IsMadeOf : Bool → List ℕ → Number → Type 0
IsMadeOf minus text m = (n : ℕ) × (text ≡ unsigned_text m.places n) × (made minus n m.places ≡ Some m)

-- behind a whole part stands nothing, or a point and the last digits
rest-spelled : (minus : Bool) (w : ℕ) (text left : List ℕ) (m : Number) → rest_read minus w left ≡ Some m → (w < 2 ^ 64 → text ≡ decimal w ++ left) → IsMadeOf minus text m
rest-spelled minus w text [] m e spelled =
    let none : m.places ≡ 0 = made-places minus w 0 m e in
    (w, rw none (spelled (made-small minus w 0 m e) ∙ append-nil (decimal w)), made-at minus w 0 m.places m none e)
rest-spelled minus w text (c ∷ after) m e spelled =
    let d = digits_from w after in
    elim (cases_Bool ((c == 46) && (length d.1 == 0) && nat_lt 0 (length after) && nat_lt (length after) 10)) [
      | inl so ↦
          let made_here : made minus d.0 (length after) ≡ Some m = rw so at e in
          let places : m.places ≡ length after = made-places minus d.0 (length after) m made_here in
          let point : c ≡ 46 = grind (arith, nat_tests, so) in
          let some : 0 < length after = grind (arith, nat_tests, so) in
          let end : length d.1 ≡ 0 = grind (arith, nat_tests, so) in
          let all : d ≡ (d.0, []) = ap (λ (l : List ℕ). (d.0, l)) (nil_from_length d.1 end) in
          let parts = after-spelled w after d.0 all in
          let small : w < 2 ^ 64 = omega (arith, digits_from-ge w after, made-small minus d.0 (length after) m made_here) in
          let text_is : text ≡ unsigned_text (length after) d.0 =
          spelled small ∙ sym (unsigned-point (length after) d.0 some ∙ rw (parts.1, parts.0, point) refl) in
          (d.0, rw places text_is, made-at minus d.0 (length after) m.places m places made_here)
      | inr other ↦ absurd (cc (rw other at e))
    ]

unsigned-spelled : (minus : Bool) (text : List ℕ) (m : Number) → unsigned_read minus text ≡ Some m → IsMadeOf minus text m
unsigned-spelled minus text m e = elim (cases_Bool (is_whole_part text (length (digits_from 0 text).1))) [
  | inl so ↦ rest-spelled minus (digits_from 0 text).0 text (digits_from 0 text).1 m (rw so at e)
      (λ small. all-spelled text (digits_from 0 text).0 (digits_from 0 text).1 small refl so)
  | inr other ↦ absurd (cc (rw other at e))
]

abbrev value-of : Option Number → ℤ
value-of None = pos 0
value-of (Some m) = m.value

abbrev below-of : Option Number → Bool
below-of None = true
below-of (Some m) = m.zero_below

signed : (minus : Bool) (n places : ℕ) (m : Number) → made minus n places ≡ Some m → m.zero_below ≡ false
    → number_text places m.value ≡ (if minus then 45 ∷ unsigned_text places n else unsigned_text places n)
signed true zero places m e plain = let no : true ≡ false = ap below-of e ∙ plain in absurd (cc)
signed true (suc n) places m e plain = elim (cases_Bool (nat_lt (2 ^ 63) (suc n))) [
  | inl so ↦ absurd (cc (rw so at e))
  | inr other ↦ let f : negsuc n ≡ m.value = ap value-of (rw other at e) in rw (← f) refl
]
signed false n places m e plain = elim (cases_Bool (nat_lt n (2 ^ 63))) [
  | inl so ↦ let f : pos n ≡ m.value = ap value-of (rw so at e) in rw (← f) refl
  | inr other ↦ absurd (cc (rw other at e))
]

-- a field that spells a number, but no zero with a sign, is the number's text
pub number-spelled : (field : List ℕ) (m : Number) → number_read field ≡ Some m → m.zero_below ≡ false → field ≡ number_text m.places m.value
number-spelled [] m e plain = absurd (cc e)
number-spelled (c ∷ cs) m e plain = elim (cases_Bool (c == 45)) [
  | inl so ↦
      let found = unsigned-spelled true cs m (rw so at e) in
      let minus : c ≡ 45 = grind (arith, nat_tests, so) in
      rw (minus, found.1) (sym (signed true found.0 m.places m found.2 plain))
  | inr other ↦
      let found = unsigned-spelled false (c ∷ cs) m (rw other at e) in
      found.1 ∙ sym (signed false found.0 m.places m found.2 plain)
]

-- without places it is the number's decimal text
pub whole-text : (n : ℤ) → number_text 0 n ≡ signed_decimal n
whole-text (pos n) = refl
whole-text (negsuc n) = refl
