use Rattle.std.proofs.Common.{◌≡◌, drop}
use Rattle.prepare_numbers.specs.Plain.{stripped}
use Rattle.prepare_numbers.proofs.writing.stripped.Given as goal

abbrev pub invariant-loop-i : goal.invariant-loop-i
invariant-loop-i l = stripped (drop l.i l.digits) ≡ stripped l.digits
