use Rattle.std.proofs.Common.{◌≡◌, ◌∙◌, ◌+◌, ◌-◌, ◌%◌, ℕ, Bool, get_or, ap, arith}
use Rattle.std.specs.Prelude.{nat_lt}
use Rattle.filter_zones.specs.Masks.{is_set}
use Rattle.filter_zones.proofs.Joined.{one_below}
use Rattle.filter_zones.proofs.lane_truths.codes_below.Goals as goal

pub loop-i-preserved : goal.loop-i-preserved
loop-i-preserved c =
    let test : ℕ → Bool = λ i. nat_lt (get_or c.args.words.now i 0 % 4294967296) c.args.limit in
    let first : is_set c.pushed-bits.result 0 ≡ test (c.loop-i.i - 1) = c.pushed-bits.ensures.first in (
      omega (arith, c.loop-i.invariant.0),
      one_below test c.loop-i.i 64 (λ j. is_set c.loop-i.bits j) (λ j. is_set c.pushed-bits.result j) c.loop-i-test.true (omega arith) c.loop-i.invariant.1 first c.pushed-bits.ensures.others,
    )

pub returns : goal.returns
returns c = λ k low.
    let at : c.loop-i.i + k ≡ k = omega (arith, c.loop-i-test.false) in
    c.loop-i.invariant.1 k (omega (arith, at, low)) ∙ ap (λ i. nat_lt (get_or c.args.words.now i 0 % 4294967296) c.args.limit) at
