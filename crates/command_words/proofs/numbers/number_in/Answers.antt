use Rattle.std.proofs.Common.{◌≡◌, ◌∙◌, ◌<◌, ◌+◌, ◌*◌, ◌-◌, ◌≤◌, List, ℕ, None, sym, subst, arith, get_or}
use Rattle.std.specs.Prelude.{option_and_then}
use Rattle.command_words.specs.Options.{number_after, within}
use Rattle.command_words.proofs.Digits.{overflowed, step_over}
use Rattle.command_words.proofs.numbers.number_in.Goals as goal

pub returns-in_default-clause-number : goal.returns-in_default-clause-number
returns-in_default-clause-number c =
    let digits = c.as_bytes-digits.result.now in
    let least : 48 ≤ get_or digits c.loop-digit.digit-index 0 = omega arith in
    let most : get_or digits c.loop-digit.digit-index 0 ≤ 57 = omega arith in
    let over : c.args.high < c.loop-digit.value * 10 + (get_or digits c.loop-digit.digit-index 0 - 48) = omega (arith, c.ranges.high.fits) in
    overflowed c.args.most c.args.low c.args.high c.args.text.now
    (subst (λ (t : List ℕ). option_and_then (within c.args.low c.args.high) (number_after 0 t) ≡ None) c.as_bytes-digits.ensures.value
    (sym c.loop-digit.invariant ∙ step_over c.args.low c.args.high c.loop-digit.value digits c.loop-digit.digit-index c.loop-digit-test.true least most over))

pub returns-in_default-checked_add-clause-number : goal.returns-in_default-checked_add-clause-number
returns-in_default-checked_add-clause-number c =
    let digits = c.as_bytes-digits.result.now in
    let least : 48 ≤ get_or digits c.loop-digit.digit-index 0 = omega arith in
    let most : get_or digits c.loop-digit.digit-index 0 ≤ 57 = omega arith in
    let over : c.args.high < c.loop-digit.value * 10 + (get_or digits c.loop-digit.digit-index 0 - 48) = omega (arith, c.ranges.high.fits) in
    overflowed c.args.most c.args.low c.args.high c.args.text.now
    (subst (λ (t : List ℕ). option_and_then (within c.args.low c.args.high) (number_after 0 t) ≡ None) c.as_bytes-digits.ensures.value
    (sym c.loop-digit.invariant ∙ step_over c.args.low c.args.high c.loop-digit.value digits c.loop-digit.digit-index c.loop-digit-test.true least most over))
