use Rattle.std.proofs.Common.{◌≡◌, ◌∙◌, ◌+◌, ◌≤◌, arith, length, sym}
use Rattle.std.proofs.lemmas.List.{take_rest}
use Rattle.std.proofs.lemmas.Grind.{common_steps}
use Rattle.prepare_numbers.proofs.Cuts.{strip-last, strip-more, strip-stop}
use Rattle.prepare_numbers.proofs.writing.stripped.Goals as goal

pub loop-i-preserved : goal.loop-i-preserved
loop-i-preserved c = sym (strip-more c.args.digits.now c.loop-i.i (omega (arith, c.loop-i-test.true)) (grind (arith, common_steps))) ∙ c.loop-i.invariant

pub returns-then-digits-i-ne48 : goal.returns-then-digits-i-ne48
returns-then-digits-i-ne48 c =
    take_rest c.args.digits.now c.loop-i.i ∙ sym (strip-stop c.args.digits.now c.loop-i.i (grind (arith, common_steps))) ∙ c.loop-i.invariant

pub returns : goal.returns
returns c =
    let last = c.saturating_sub-last.result in
    let e : c.loop-i.i ≡ last = omega (arith, c.loop-i-test.false, c.loop-i.auto.i-end) in
    let le : length c.args.digits.now ≤ last + 1 = omega (arith, c.saturating_sub-last.ensures) in
    take_rest c.args.digits.now last ∙ sym (strip-last c.args.digits.now last le) ∙ (rw e at c.loop-i.invariant)
