use Rattle.std.proofs.Common.{sym, ◌∙◌}
use Rattle.prepare_look.proofs.Folding.{shape-done, shape-more}
use Rattle.prepare_look.proofs.shape.shape_of.Goals as goal

pub loop-i-preserved : goal.loop-i-preserved
loop-i-preserved c =
    rw c.after-shape.ensures (sym (shape-more c.loop-i.shape c.args.field.now c.loop-i.i c.loop-i-test.true) ∙ c.loop-i.invariant)

pub returns : goal.returns
returns c = sym (shape-done c.loop-i.shape c.args.field.now c.loop-i.i c.loop-i-test.false) ∙ c.loop-i.invariant
