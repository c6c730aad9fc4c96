use Rattle.std.proofs.Common.{◌≡◌, ◌++◌, length}
use Rattle.table_core.specs.Lists.{lists}
use Rattle.agg_groups.specs.Table.{AreBelow, AllFit, result_rows, seen, plain_places}
use Rattle.agg_groups.proofs.table.rows_in.Given as goal

abbrev pub invariant-loop-key : goal.invariant-loop-key
invariant-loop-key l = record {
  value : lists l.rows.items ++ result_rows l.items (seen (record { places = plain_places l.key-iterator; values = lists l.values })) ≡ result_rows l.items (seen (record { places = plain_places l.places.entries; values = lists l.values }));
  below : AreBelow (length l.values) (plain_places l.key-iterator);
  fits : AllFit (seen (record { places = plain_places l.key-iterator; values = lists l.values }));
}
