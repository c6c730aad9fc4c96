use Rattle.std.proofs.Common.{◌≡◌, ◌≤◌, length}
use Rattle.csv_load.specs.Number.{digits_from}
use Rattle.csv_load.proofs.numeral.digits_after.Given as goal

abbrev pub invariant-loop-left : goal.invariant-loop-left
invariant-loop-left l = record {
  within : l.value ≤ 9223372036854775809;
  so_far : digits_from l.start l.text ≡ digits_from l.value l.left;
}

abbrev pub decreases-loop-left : goal.decreases-loop-left
decreases-loop-left l = length l.left
