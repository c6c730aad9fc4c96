use Rattle.std.proofs.Common.{◌≡◌, ◌+◌, List, length}
use Rattle.table_core.specs.declared.cell.Cell.{Cell}
use Rattle.table_core.specs.Lists.{lists}
use Rattle.agg_groups.specs.Table.{AreBelow, AreSound, HavePlaces, IsPlaced, Rising, names, at, seen, plain_places}
use Rattle.agg_groups.proofs.Merge.{absorb, IsLeft}
use Rattle.agg_groups.proofs.table.join_groups.Given as goal

abbrev pub invariant-loop-key : goal.invariant-loop-key
invariant-loop-key l = record {
  value : (q : List Cell) → absorb l.items (at (seen l.table) q) (seen (record { places = plain_places l.key-iterator; values = lists l.values })) q
      ≡ absorb l.items (at (seen l.initial.table) q) (seen (record { places = plain_places l.places.entries; values = lists l.values })) q;
  rising : Rising (names (plain_places l.key-iterator));
  below : AreBelow (length (lists l.values)) (plain_places l.key-iterator);
  left : IsLeft l.rows (length l.items) (names (plain_places l.key-iterator)) (seen l.table);
  known : HavePlaces (names (plain_places l.key-iterator)) l.table.places;
  places : l.table.places ≡ l.initial.table.places;
  placed : IsPlaced l.table;
  sound : AreSound (l.rows + l.more) (length l.items) l.table.values;
}
