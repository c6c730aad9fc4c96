use Rattle.std.proofs.Common.{sym, ◌∙◌}
use Rattle.prepare_look.proofs.Folding.{power-done, power-more}
use Rattle.prepare_look.proofs.exponent.has_exponent.Goals as goal

pub loop-i-preserved : goal.loop-i-preserved
loop-i-preserved c =
    rw c.after-power.ensures (sym (power-more c.loop-i.power c.args.field.now c.loop-i.i c.loop-i-test.true) ∙ c.loop-i.invariant)

pub returns : goal.returns
returns c =
    c.ends_so.ensures ∙ (sym (power-done c.loop-i.power c.args.field.now c.loop-i.i c.loop-i-test.false) ∙ c.loop-i.invariant)
