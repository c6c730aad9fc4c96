use Rattle.std.proofs.Common.{◌≡◌, drop}
use Rattle.std.specs.List.{list_any}
use Rattle.prepare_numbers.specs.Plain.{is_nonzero}
use Rattle.prepare_numbers.proofs.writing.has_nonzero.Given as goal

abbrev pub invariant-loop-i : goal.invariant-loop-i
invariant-loop-i l = list_any is_nonzero (drop l.i l.digits) ≡ list_any is_nonzero l.digits
