use Rattle.std.proofs.Common.{◌≡◌, ◌≤◌, ◌+◌, take}
use Rattle.inspect_places.specs.Lines.{line_of, column_of}
use Rattle.inspect_places.proofs.lines.line_and_column.Given as goal

abbrev pub invariant-loop-i : goal.invariant-loop-i
invariant-loop-i l =
    (l.place.line ≡ line_of (take l.i l.bytes)) × (l.place.column ≡ column_of (take l.i l.bytes)) × (l.place.line ≤ l.i + 1) × (l.place.column ≤ l.i + 1)
