use Rattle.std.proofs.Common.{◌≡◌, ◌∙◌, ◌+◌, ◌-◌, ℕ, Bool, FitsSigned, get_or, of_z, ap, arith, rules}
use Rattle.std.specs.Prelude.{int_lt}
use Rattle.std.specs.Int.{cast_signed, w64}
use Rattle.std.proofs.lemmas.Int.{to_z-of_z}
use Rattle.filter_zones.specs.Masks.{is_set}
use Rattle.filter_zones.proofs.Joined.{one_below}
use Rattle.filter_zones.proofs.lane_truths.numbers_below.Goals as goal

pub loop-i-preserved : goal.loop-i-preserved
loop-i-preserved c =
    let limit = cast_signed w64 (of_z w64 c.args.limit) in
    let test : ℕ → Bool = λ i. int_lt (cast_signed w64 (get_or c.args.words.now i 0)) limit in
    let fits : FitsSigned w64 c.cast_signed.result = search rules in
    let first : is_set c.pushed-bits.result 0 ≡ test (c.loop-i.i - 1) = c.pushed-bits.ensures.first ∙ ap (λ z. int_lt z limit) (to_z-of_z w64 c.cast_signed.result fits ∙ c.cast_signed.ensures) in (
      omega (arith, c.loop-i.invariant.0),
      one_below test c.loop-i.i 64 (λ j. is_set c.loop-i.bits j) (λ j. is_set c.pushed-bits.result j) c.loop-i-test.true (omega arith) c.loop-i.invariant.1 first c.pushed-bits.ensures.others,
    )

pub returns : goal.returns
returns c = λ k low.
    let at : c.loop-i.i + k ≡ k = omega (arith, c.loop-i-test.false) in
    let word = cast_signed w64 (get_or c.args.words.now k 0) in
    c.loop-i.invariant.1 k (omega (arith, at, low)) ∙ ap (λ i. int_lt (cast_signed w64 (get_or c.args.words.now i 0)) (cast_signed w64 (of_z w64 c.args.limit))) at
    ∙ ap (λ z. int_lt word z) (to_z-of_z w64 c.args.limit c.ranges.limit)
