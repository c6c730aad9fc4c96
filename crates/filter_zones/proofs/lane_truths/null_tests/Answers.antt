use Rattle.std.proofs.Common.{◌∙◌, ◌==◌, true, false, ap, refl}
use Rattle.std.proofs.lemmas.Nat.Bits.{bit_at-zero}
use Rattle.row_blocks.specs.Lanes.{held, word_at}
use Rattle.filter_zones.specs.Masks.{is_set}
use Rattle.filter_zones.proofs.RowTruths.{not_null, null_with}
use Rattle.filter_zones.proofs.lane_truths.null_tests.Goals as goal

pub returns-then-negated : goal.returns-then-negated
returns-then-negated c = λ i low.
    let lane = c.args.lane.now in
    let word = word_at lane i in
    let bits = null_with true (held lane.holds word) (is_set lane.nulls i) (is_set c.complement.result i) (not_null lane.holds word) (c.complement.ensures i low) in
    rw c.if-negated.true (bits.0, ap (λ n. n == 1) (bit_at-zero i) ∙ bits.1)

pub returns : goal.returns
returns c = λ i low.
    let lane = c.args.lane.now in
    let word = word_at lane i in
    let bits = null_with false (held lane.holds word) (is_set lane.nulls i) (is_set lane.nulls i) (not_null lane.holds word) refl in
    rw c.if-negated.false (bits.0, ap (λ n. n == 1) (bit_at-zero i) ∙ bits.1)
