use Rattle.std.proofs.Common.{◌≡◌, ◌∙◌, ◌*◌, ◌%◌, ◌^◌, ◌-◌, ℕ, refl, ap, arith}
use Rattle.std.specs.Int.{bit_at}
use Rattle.std.proofs.lemmas.Grind.{one_shifted}
use Rattle.std.proofs.lemmas.Nat.Bits.{bit_at_ones, bit_at_ones_above}
use Rattle.row_blocks.proofs.block.every_below.Goals as goal

pub returns-then-count-eq64-clause-set : goal.returns-then-count-eq64-clause-set
returns-then-count-eq64-clause-set c = λ i low. bit_at_ones 64 i (omega (arith, low, c.if-count-eq64.true))

pub returns-then-count-eq64-clause-clear : goal.returns-then-count-eq64-clause-clear
returns-then-count-eq64-clause-clear c = λ i high. bit_at_ones_above 64 i (omega (arith, high, c.if-count-eq64.true))

pub returns-clause-set : goal.returns-clause-set
returns-clause-set c = λ i low.
    (let n : ℕ = c.args.count in
    let shifted : 1 * 2 ^ n % 18446744073709551616 ≡ 2 ^ n = (one_shifted n 18446744073709551615 refl (omega (arith, c.requires, c.if-count-eq64.false))).0 in
    ap (λ p. bit_at (p - 1) i) shifted ∙ bit_at_ones n i low)

pub returns-clause-clear : goal.returns-clause-clear
returns-clause-clear c = λ i high.
    (let n : ℕ = c.args.count in
    let shifted : 1 * 2 ^ n % 18446744073709551616 ≡ 2 ^ n = (one_shifted n 18446744073709551615 refl (omega (arith, c.requires, c.if-count-eq64.false))).0 in
    ap (λ p. bit_at (p - 1) i) shifted ∙ bit_at_ones_above n i high)
