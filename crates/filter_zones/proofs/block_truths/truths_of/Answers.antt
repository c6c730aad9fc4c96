use Rattle.std.proofs.Common.{◌∙◌, arith}
use Rattle.std.proofs.lemmas.Nat.Bits.{bit_at_and}
use Rattle.filter_zones.proofs.Bits.{kept_set}
use Rattle.filter_zones.proofs.block_truths.truths_of.Goals as goal

pub returns-clause-yes : goal.returns-clause-yes
returns-clause-yes c = λ i low.
    kept_set c.truths_in-truths.result.yes c.every-rows.result i (c.every-rows.ensures.set i low)
    ∙ (c.truths_in-truths.ensures i (omega (arith, low, c.len.ensures.len, c.len.ensures.short))).0

pub returns-clause-unknown : goal.returns-clause-unknown
returns-clause-unknown c = λ i low.
    kept_set c.truths_in-truths.result.unknown c.every-rows.result i (c.every-rows.ensures.set i low)
    ∙ (c.truths_in-truths.ensures i (omega (arith, low, c.len.ensures.len, c.len.ensures.short))).1

pub returns-clause-clear : goal.returns-clause-clear
returns-clause-clear c = λ i high. (
  omega (arith, bit_at_and c.truths_in-truths.result.yes c.every-rows.result i, c.every-rows.ensures.clear i high),
  omega (arith, bit_at_and c.truths_in-truths.result.unknown c.every-rows.result i, c.every-rows.ensures.clear i high),
)
