use Rattle.std.proofs.Common.{◌≡◌, ◌++◌, List}
use Rattle.std.specs.String.{string_bytes}
use Rattle.inspect_picture.specs.Rows.{AreRows}
use Rattle.inspect_picture.specs.Svg.{rows_text}
use Rattle.inspect_picture.specs.declared.mark.Mark.{Mark}
use Rattle.inspect_picture.proofs.drawing.write_rows.Given as goal

abbrev pub invariant-loop-place : goal.invariant-loop-place
invariant-loop-place l = (ms : List Mark) → AreRows l.scale ms l.rows
    → string_bytes l.svg ≡ string_bytes l.initial.svg ++ rows_text l.scale l.titled ms l.place
