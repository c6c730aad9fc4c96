use Rattle.std.proofs.Common.{◌-◌, ◌≤◌, length}
use Rattle.table_core.specs.Dict.{IsAbove, IsBelow}
use Rattle.table_core.proofs.dict.Dict.code_of.Given as goal

abbrev pub invariant-loop-low : goal.invariant-loop-low
invariant-loop-low l = record {
  within : (l.low ≤ l.high) × (l.high ≤ length l.self-inside.texts);
  below : IsBelow l.self-inside.texts l.text l.low;
  above : IsAbove l.self-inside.texts l.text l.high;
}

abbrev pub decreases-loop-low : goal.decreases-loop-low
decreases-loop-low l = l.high - l.low
