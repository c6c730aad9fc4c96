-- The half of a number, and limits past all numbers of 64 bits.
use Rattle.std.proofs.Common.{◌≡◌, ℕ, true, arith}
use Rattle.std.specs.Prelude.{ℤ, pos, negsuc, ◌+ℤ◌, ◌≤ℤ◌, ◌<ℤ◌, int_lt}
use Rattle.std.specs.Int.{cast_signed, int_div_euclid, w64}
use Rattle.std.proofs.lemmas.Int.{ints}

halves : (h : ℤ) → ((int_div_euclid h (pos 2) +ℤ int_div_euclid h (pos 2)) ≤ℤ h) × (h <ℤ ((int_div_euclid h (pos 2) +ℤ int_div_euclid h (pos 2)) +ℤ pos 2))
halves (pos n) = (omega (arith, ints), omega (arith, ints))
halves (negsuc n) = (omega (arith, ints), omega (arith, ints))

-- the half of a number, rounded down
pub half_is : (h same half : ℤ) → same ≡ h → half ≡ int_div_euclid same (pos 2) → ((half +ℤ half) ≤ℤ h) × (h <ℤ ((half +ℤ half) +ℤ pos 2))
half_is h same half e d = rw (d, ← e) (halves same)

lt_is : (a b : ℤ) → a <ℤ b → int_lt a b ≡ true
lt_is a b h = grind (arith, ints)

-- a number of 64 bits is below a limit that is past all of them
pub below_past : (word : ℕ) (limit : ℤ) → pos 9223372036854775807 <ℤ limit → int_lt (cast_signed w64 word) limit ≡ true
below_past word limit past = lt_is (cast_signed w64 word) limit (omega (arith, ints))
