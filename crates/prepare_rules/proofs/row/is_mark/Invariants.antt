use Rattle.std.proofs.Common.{◌≡◌, drop}
use Rattle.prepare_rules.specs.Made.{is_mark}
use Rattle.prepare_rules.proofs.row.is_mark.Given as goal

abbrev pub invariant-loop-i : goal.invariant-loop-i
invariant-loop-i l = is_mark (drop l.i l.marks) l.field ≡ is_mark l.marks l.field
