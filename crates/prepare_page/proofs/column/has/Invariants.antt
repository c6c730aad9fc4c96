use Rattle.std.proofs.Common.{◌≡◌, drop}
use Rattle.prepare_page.specs.Columns.{has}
use Rattle.prepare_page.proofs.column.has.Given as goal

abbrev pub invariant-loop-i : goal.invariant-loop-i
invariant-loop-i l = has l.survey l.column l.kinds ≡ has l.survey l.column (drop l.i l.kinds)
