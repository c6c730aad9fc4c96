use Rattle.std.proofs.Common.{◌≡◌, ◌++◌, take}
use Rattle.std.specs.List.{flat_map}
use Rattle.std.specs.String.{string_bytes}
use Rattle.inspect_picture.specs.Svg.{label_text}
use Rattle.inspect_picture.proofs.drawing.write_labels.Given as goal

abbrev pub invariant-loop-stretch : goal.invariant-loop-stretch
invariant-loop-stretch l = string_bytes l.svg ≡ string_bytes l.initial.svg ++ flat_map (label_text l.scale) (take l.stretch-index l.stretches)
