use Rattle.std.proofs.Common.{◌≡◌, ◌<◌, ◌≤◌, ◌-◌, ℕ, List, length, map}
use Rattle.std.specs.Prelude.{◌||◌, Some, is_some, slice_index_or}
use Rattle.std.specs.Int.{bit_at}
use Rattle.table_core.specs.declared.cell.Cell.{Cell}
use Rattle.row_blocks.specs.Blocks.{row_at}
use Rattle.query_meaning.specs.Cells.{codes}
use Rattle.query_meaning.specs.Meaning.{key_of}
use Rattle.agg_groups.specs.Table.{HasGrown, IsReady, StaySound, has_key, place_at}
use Rattle.agg_groups.proofs.Placing.{first_chosen}
use Rattle.agg_groups.proofs.finding.find_all.Given as goal

-- the places of the chosen ones of the first rows are found
abbrev pub invariant-loop-row : goal.invariant-loop-row
invariant-loop-row l = record {
  within : l.from ≤ l.block.count;
  found : (j : ℕ) → j < l.from → bit_at l.word j ≡ 1 → place_at l.table.places (key_of codes l.keys (row_at l.block j)) ≡ Some (slice_index_or l.places j 0);
  named : (q : List Cell) → is_some (place_at l.table.places q) ≡ (is_some (place_at l.initial.table.places q) || has_key (map (key_of codes l.keys) (first_chosen l.block l.word l.from)) q);
  grown : HasGrown l.items l.initial.table l.table;
  ready : IsReady (length l.keys) l.last.key.items l.last.place l.last.met.items l.table;
  sound : StaySound (length l.items) l.initial.table.values l.table.values;
  long : length l.places ≡ 64;
}

abbrev pub decreases-loop-row : goal.decreases-loop-row
decreases-loop-row l = 64 - l.from
