use Rattle.std.proofs.Common.{◌≡◌, ◌<◌, ℕ, map}
use Rattle.std.specs.Prelude.{All}
use Rattle.std.specs.List.{range_with_len}
use Rattle.table_core.specs.Chunk.{chunk}
use Rattle.filter_zones.specs.Possible.{FitsZones}
use Rattle.filter_zones.specs.Truth.{FitsRow}
use Rattle.filter_zones.specs.Zone.{CoversRow}
use Rattle.filter_zones.specs.declared.cond.Cond.{Cond}
use Rattle.table_pieces.specs.Zoning.{zones_in}
use Rattle.table_pieces.proofs.zoning.zones_of_chunks.Given as goal

abbrev pub invariant-loop-chunk : goal.invariant-loop-chunk
invariant-loop-chunk l = record {
  zones : l.zones.items ≡ map (zones_in l.shape l.table.rows) (range_with_len 0 l.chunk);
  covers : (c : ℕ) → c < l.chunk → All (CoversRow (zones_in l.shape l.table.rows c).zones) (chunk l.table.rows l.shape.per c);
  fits : (c : ℕ) → c < l.chunk → (cond : Cond) → All (FitsRow cond) (chunk l.table.rows l.shape.per c) → FitsZones cond (zones_in l.shape l.table.rows c).zones;
}
