use Rattle.std.proofs.Common.{◌≡◌, ◌≤◌, ◌+◌, List, length}
use Rattle.table_core.specs.declared.cell.Cell.{Cell}
use Rattle.trial_query.proofs.blocks.add_each.Given as goal

abbrev pub invariant-loop-i : goal.invariant-loop-i
invariant-loop-i l = record {
  width : length {A = Cell} l.cells ≡ 4;
  items : l.groups.items ≡ l.initial.groups.items;
  keys : l.groups.keys ≡ l.initial.groups.keys;
  rows : l.groups.rows ≤ l.initial.groups.rows + l.i;
}
