-- The bits of a word from a place on.
use Rattle.std.proofs.Common.{◌≡◌, ℕ, ◌<◌, ◌≤◌, ◌+◌, ◌-◌, ◌/◌, ◌%◌, ◌^◌, sym, ap, ◌∙◌, arith, inl, inr}
use Rattle.std.specs.Int.{bit_at, trailing_zeros, w64}
use Rattle.std.proofs.lemmas.Bool.{cases_lt}
use Rattle.std.proofs.lemmas.Nat.{shr-shr}
use Rattle.std.proofs.lemmas.Nat.Bits.{bit_at-trailing_zeros, bit_at-zero, bit_at_above}
use Rattle.std.proofs.Math.Nat.{div-le_self}

bit_past : (word from i : ℕ) → from ≤ i → bit_at word i ≡ bit_at (word / 2 ^ from) (i - from)
bit_past word from i le = let at : i ≡ from + (i - from) = omega (arith, le) in ap (bit_at word) at ∙ sym (ap (λ m. m % 2) (shr-shr word from (i - from)))

-- none is left
pub none_left : (word from : ℕ) → word / 2 ^ from ≡ 0 → (i : ℕ) → from ≤ i → bit_at word i ≡ 0
none_left word from none i le = bit_past word from i le ∙ ap (λ w. bit_at w (i - from)) none ∙ bit_at-zero (i - from)

-- the lowest bit of those left is the next one
pub record IsNext (word from next : ℕ) : Type 0 where
  pub set : bit_at word next ≡ 1
  pub first : (i : ℕ) → from ≤ i → i < next → bit_at word i ≡ 0
  pub below : next < 64

pub next_left : (word from : ℕ) → word < 2 ^ 64 → 0 < word / 2 ^ from → IsNext word from (from + trailing_zeros w64 (word / 2 ^ from))
next_left word from small some = record {
  set = is;
  first = λ i le lt. bit_past word from i le ∙ lowest.2 (i - from) (omega (arith, le, lt));
  below = elim (cases_lt next 64) [ inl lt ↦ lt | inr not ↦ absurd (let clear = bit_at_above word 64 next small (omega (arith, not)) in omega (arith, is, clear)) ];
}
  where
    next : ℕ
    next = from + trailing_zeros w64 (word / 2 ^ from)

    less : word / 2 ^ from ≤ word
    less = div-le_self word (2 ^ from)

    lowest : (trailing_zeros w64 (word / 2 ^ from) < 64) × (bit_at (word / 2 ^ from) (trailing_zeros w64 (word / 2 ^ from)) ≡ 1) × ((i : ℕ) → i < trailing_zeros w64 (word / 2 ^ from) → bit_at (word / 2 ^ from) i ≡ 0)
    lowest = bit_at-trailing_zeros w64 (word / 2 ^ from) some (omega (arith, small, less))

    is : bit_at word next ≡ 1
    is = (let le : from ≤ next = omega arith in let back : next - from ≡ trailing_zeros w64 (word / 2 ^ from) = omega arith in bit_past word from next le ∙ ap (bit_at (word / 2 ^ from)) back ∙ lowest.1)
