use Rattle.std.proofs.Common.{◌≡◌, ◌++◌, drop}
use Rattle.prepare_numbers.specs.Values.{digits_in}
use Rattle.prepare_numbers.proofs.writing.push_digits.Given as goal

abbrev pub invariant-loop-i : goal.invariant-loop-i
invariant-loop-i l = l.digits.items ++ digits_in (drop l.i l.bytes) ≡ l.fn.digits.items ++ digits_in l.bytes
