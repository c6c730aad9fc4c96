use Rattle.std.proofs.Common.{◌≡◌, length}
use Rattle.table_core.specs.Lists.{lists}
use Rattle.agg_groups.specs.Table.{AreBelow, first_over, seen, plain_places}
use Rattle.agg_groups.proofs.table.first_over_in.Given as goal

abbrev pub invariant-loop-place : goal.invariant-loop-place
invariant-loop-place l = record {
  value : first_over (seen (record { places = plain_places l.place-iterator; values = lists l.values })) ≡ first_over (seen (record { places = plain_places l.places.entries; values = lists l.values }));
  below : AreBelow (length l.values) (plain_places l.place-iterator);
}
