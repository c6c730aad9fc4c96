use Rattle.std.proofs.Common.{◌≡◌, ◌≤◌}
use Rattle.inspect_notes.specs.Values.{is_none, value_at}
use Rattle.inspect_notes.proofs.Counted.{passed}
use Rattle.inspect_notes.proofs.counting.nulls_in.Given as goal

abbrev pub invariant-loop-row : goal.invariant-loop-row
invariant-loop-row l = record {
  counted : l.count ≡ passed (value_at l.dict l.column) is_none l.table.rows l.row;
  within : l.count ≤ l.row;
}
