use Rattle.std.proofs.Common.{◌≡◌, drop}
use Rattle.std.specs.List.{list_any}
use Rattle.prepare_look.specs.Seeing.{ends_line}
use Rattle.prepare_look.proofs.noting.has_end.Given as goal

abbrev pub invariant-loop-i : goal.invariant-loop-i
invariant-loop-i l = list_any ends_line l.field ≡ list_any ends_line (drop l.i l.field)
