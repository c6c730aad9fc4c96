use Rattle.std.proofs.Common.{◌≡◌, ◌≤◌, ◌+◌, drop, length}
use Rattle.prepare_numbers.specs.Values.{digits_in}
use Rattle.prepare_numbers.proofs.mantissa.count_digits.Given as goal

abbrev pub invariant-loop-i : goal.invariant-loop-i
invariant-loop-i l = record {
  value : l.count + length (digits_in (drop l.i l.bytes)) ≡ length (digits_in l.bytes);
  within : l.count ≤ l.i;
}
