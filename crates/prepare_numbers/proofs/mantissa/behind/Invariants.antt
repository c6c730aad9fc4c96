use Rattle.std.proofs.Common.{◌≡◌, drop}
use Rattle.prepare_numbers.specs.Values.{behind}
use Rattle.prepare_numbers.proofs.mantissa.behind.Given as goal

abbrev pub invariant-loop-i : goal.invariant-loop-i
invariant-loop-i l = behind l.mark (drop l.i l.bytes) ≡ behind l.mark l.bytes
