use Rattle.std.proofs.Common.{◌≡◌, ◌++◌}
use Rattle.prepare_numbers.specs.Plain.{zeros}
use Rattle.prepare_numbers.proofs.writing.push_zeros.Given as goal

abbrev pub invariant-loop-done : goal.invariant-loop-done
invariant-loop-done l = l.digits.items ≡ l.fn.digits.items ++ zeros l._done
