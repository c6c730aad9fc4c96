use Rattle.std.proofs.Common.{◌≡◌, drop}
use Rattle.std.specs.List.{list_any}
use Rattle.csv.specs.Records.{fields_of}
use Rattle.prepare_look.specs.Seeing.{ends_line}
use Rattle.prepare_look.proofs.noting.is_folded.Given as goal

abbrev pub invariant-loop-i : goal.invariant-loop-i
invariant-loop-i l = list_any (list_any ends_line) (fields_of l.row) ≡ list_any (list_any ends_line) (drop l.i (fields_of l.row))
