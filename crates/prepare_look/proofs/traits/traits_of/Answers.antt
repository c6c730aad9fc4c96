use Rattle.std.proofs.Common.{sym, ◌∙◌}
use Rattle.prepare_look.proofs.Folding.{traits-done, traits-more}
use Rattle.prepare_look.proofs.traits.traits_of.Goals as goal

pub loop-i-preserved : goal.loop-i-preserved
loop-i-preserved c =
    rw c.after-traits.ensures (sym (traits-more c.loop-i.traits c.args.field.now c.loop-i.i c.loop-i-test.true) ∙ c.loop-i.invariant)

pub returns : goal.returns
returns c = sym (traits-done c.loop-i.traits c.args.field.now c.loop-i.i c.loop-i-test.false) ∙ c.loop-i.invariant
