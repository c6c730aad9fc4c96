use Rattle.std.proofs.Common.{◌≡◌, drop}
use Rattle.prepare_look.specs.Shapes.{no_shape, shape_from}
use Rattle.prepare_look.proofs.shape.shape_of.Given as goal

abbrev pub invariant-loop-i : goal.invariant-loop-i
invariant-loop-i l = shape_from l.shape (drop l.i l.field) ≡ shape_from no_shape l.field
