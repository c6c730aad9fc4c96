use Rattle.std.proofs.Common.{◌≡◌, List, length}
use Rattle.std.specs.Prelude.{◌||◌, is_some}
use Rattle.table_core.specs.declared.cell.Cell.{Cell}
use Rattle.agg_groups.specs.Table.{StaySound, HasGrown, IsPlaced, has_key, names, place_at, plain_places}
use Rattle.agg_groups.proofs.table.place_all.Given as goal

abbrev pub invariant-loop-key : goal.invariant-loop-key
invariant-loop-key l = record {
  named : (q : List Cell) → (is_some (place_at l.table.places q) || has_key (names (plain_places l.key-iterator)) q)
      ≡ (is_some (place_at l.initial.table.places q) || has_key (names (plain_places l.others.entries)) q);
  grown : HasGrown l.items l.initial.table l.table;
  placed : IsPlaced l.table;
  sound : StaySound (length l.items) l.initial.table.values l.table.values;
}
