-- What the size of a number says.
use Rattle.std.proofs.Common.{◌≡◌, ◌<◌, ◌≤◌, ◌^◌, ℕ, true, false, inl, inr, refl, arith}
use Rattle.std.specs.Prelude.{nat_le, nat_lt}
use Rattle.std.proofs.lemmas.Bool.{cases_Bool, ltb-true, leb-true, ltb-false, leb-false, false≢true}
use Rattle.inspect_places.specs.declared.word.Size.{Size}
use Rattle.inspect_places.specs.declared.word.Size.TheVariants as size
use Rattle.inspect_places.specs.Kinds.{number_size, decimal_size}
use Rattle.inspect_places.specs.Steps.{is_positive, is_negative, is_limit}

abbrev Has : ℕ → Size → Type 0
Has n size.Limit = n ≤ 4096
Has n size.Positive = (4096 < n) × (n < 2 ^ 63)
Has n size.Negative = n ≡ 2 ^ 63
Has n size.TooLarge = 2 ^ 63 < n

has_size : (n : ℕ) → Has n (number_size n)
has_size n = elim (cases_Bool (nat_le n (2 ^ 63))) [
  | inl a ↦ elim (cases_Bool (nat_le n 4096)) [
    | inl b ↦ rw (a, b) (leb-true n 4096 b)
    | inr b ↦ elim (cases_Bool (nat_lt n (2 ^ 63))) [
      | inl c ↦ rw (a, b, c) (leb-false n 4096 b, ltb-true n (2 ^ 63) c)
      | inr c ↦ rw (a, b, c) (omega (arith, leb-true n (2 ^ 63) a, ltb-false n (2 ^ 63) c))
    ]
  ]
  | inr a ↦ rw a (leb-false n (2 ^ 63) a)
]

positive_by : (n : ℕ) (z : Size) → Has n z → is_positive z ≡ true → n < 2 ^ 63
positive_by n size.Limit h e = omega (arith, h)
positive_by n size.Positive h e = h.1
positive_by n size.Negative h e = absurd (false≢true e)
positive_by n size.TooLarge h e = absurd (false≢true e)

by_positive : (n : ℕ) (z : Size) → Has n z → n < 2 ^ 63 → is_positive z ≡ true
by_positive n size.Limit h l = refl
by_positive n size.Positive h l = refl
by_positive n size.Negative h l = absurd (omega (arith, h, l))
by_positive n size.TooLarge h l = absurd (omega (arith, h, l))

negative_by : (n : ℕ) (z : Size) → Has n z → is_negative z ≡ true → n ≤ 2 ^ 63
negative_by n size.Limit h e = omega (arith, h)
negative_by n size.Positive h e = omega (arith, h.1)
negative_by n size.Negative h e = omega (arith, h)
negative_by n size.TooLarge h e = absurd (false≢true e)

by_negative : (n : ℕ) (z : Size) → Has n z → n ≤ 2 ^ 63 → is_negative z ≡ true
by_negative n size.Limit h l = refl
by_negative n size.Positive h l = refl
by_negative n size.Negative h l = refl
by_negative n size.TooLarge h l = absurd (omega (arith, h, l))

limit_by : (n : ℕ) (z : Size) → Has n z → is_limit z ≡ true → n ≤ 4096
limit_by n size.Limit h e = h
limit_by n size.Positive h e = absurd (false≢true e)
limit_by n size.Negative h e = absurd (false≢true e)
limit_by n size.TooLarge h e = absurd (false≢true e)

by_limit : (n : ℕ) (z : Size) → Has n z → n ≤ 4096 → is_limit z ≡ true
by_limit n size.Limit h l = refl
by_limit n size.Positive h l = absurd (omega (arith, h.0, l))
by_limit n size.Negative h l = absurd (omega (arith, h, l))
by_limit n size.TooLarge h l = absurd (omega (arith, h, l))

-- ---- numbers

pub positive_is : (n : ℕ) → is_positive (number_size n) ≡ true → n < 2 ^ 63
positive_is n e = positive_by n (number_size n) (has_size n) e

pub is_positive_if : (n : ℕ) → n < 2 ^ 63 → is_positive (number_size n) ≡ true
is_positive_if n h = by_positive n (number_size n) (has_size n) h

pub negative_is : (n : ℕ) → is_negative (number_size n) ≡ true → n ≤ 2 ^ 63
negative_is n e = negative_by n (number_size n) (has_size n) e

pub is_negative_if : (n : ℕ) → n ≤ 2 ^ 63 → is_negative (number_size n) ≡ true
is_negative_if n h = by_negative n (number_size n) (has_size n) h

pub limit_is : (n : ℕ) → is_limit (number_size n) ≡ true → n ≤ 4096
limit_is n e = limit_by n (number_size n) (has_size n) e

pub is_limit_if : (n : ℕ) → n ≤ 4096 → is_limit (number_size n) ≡ true
is_limit_if n h = by_limit n (number_size n) (has_size n) h

-- ---- decimals

pub decimal_is_positive : (n p : ℕ) → is_positive (decimal_size n p) ≡ true → (n < 2 ^ 63) × (p ≤ 9)
decimal_is_positive n p e = elim (cases_Bool (nat_lt 9 p)) [
  | inl a ↦ let e' : false ≡ true = rw a at e in absurd (false≢true e')
  | inr a ↦ let e' : is_positive (number_size n) ≡ true = rw a at e in (positive_is n e', ltb-false 9 p a)
]

pub decimal_is_negative : (n p : ℕ) → is_negative (decimal_size n p) ≡ true → (n ≤ 2 ^ 63) × (p ≤ 9)
decimal_is_negative n p e = elim (cases_Bool (nat_lt 9 p)) [
  | inl a ↦ let e' : false ≡ true = rw a at e in absurd (false≢true e')
  | inr a ↦ let e' : is_negative (number_size n) ≡ true = rw a at e in (negative_is n e', ltb-false 9 p a)
]

few_places : (p : ℕ) → p ≤ 9 → nat_lt 9 p ≡ false
few_places p h = elim (cases_Bool (nat_lt 9 p)) [
  | inl a ↦ absurd (omega (arith, ltb-true 9 p a, h))
  | inr a ↦ a
]

pub is_positive_decimal : (n p : ℕ) → n < 2 ^ 63 → p ≤ 9 → is_positive (decimal_size n p) ≡ true
is_positive_decimal n p h k = rw (few_places p k) (is_positive_if n h)

pub is_negative_decimal : (n p : ℕ) → n ≤ 2 ^ 63 → p ≤ 9 → is_negative (decimal_size n p) ≡ true
is_negative_decimal n p h k = rw (few_places p k) (is_negative_if n h)
