use Rattle.std.proofs.Common.{◌≡◌, List}
use Rattle.inspect_picture.specs.Rows.{AreRows}
use Rattle.inspect_picture.specs.Svg.{drawn}
use Rattle.inspect_picture.specs.declared.mark.Mark.{Mark}
use Rattle.inspect_picture.specs.declared.scale.Scale.{Scale}
use Rattle.inspect_picture.proofs.rows.drawn_in.Given as goal

abbrev pub invariant-loop-place : goal.invariant-loop-place
invariant-loop-place l = (z : Scale) (ms : List Mark) → AreRows z ms l.rows → l.drawn ≡ drawn z ms l.place
