use Rattle.std.proofs.Common.{◌≡◌, ◌++◌}
use Rattle.std.specs.String.{string_bytes}
use Rattle.inspect_picture.specs.Svg.{guides}
use Rattle.inspect_picture.proofs.drawing.write_guides.Given as goal

abbrev pub invariant-loop-k : goal.invariant-loop-k
invariant-loop-k l = string_bytes l.svg ≡ string_bytes l.initial.svg ++ guides l.scale l.k
