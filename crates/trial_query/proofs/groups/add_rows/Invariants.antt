use Rattle.std.proofs.Common.{◌≡◌, ◌+◌}
use Rattle.trial_query.proofs.groups.add_rows.Given as goal

abbrev pub invariant-loop-row : goal.invariant-loop-row
invariant-loop-row l = record {
  items : l.groups.items ≡ l.initial.groups.items;
  keys : l.groups.keys ≡ l.initial.groups.keys;
  rows : l.groups.rows ≡ l.initial.groups.rows + l.row-index;
}
