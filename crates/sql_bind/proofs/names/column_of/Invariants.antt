use Rattle.std.proofs.Common.{◌≡◌, length, ◌+◌}
use Rattle.sql_bind.specs.Names.{column_of}
use Rattle.sql_bind.proofs.names.column_of.Given as goal

abbrev pub invariant-loop-left : goal.invariant-loop-left
invariant-loop-left l = record {
  found : column_of l.columns l.name ≡ l.number + column_of l.left l.name;
  left : length l.columns ≡ l.number + length l.left;
}

abbrev pub decreases-loop-left : goal.decreases-loop-left
decreases-loop-left l = length l.left
