-- The zones of a table's chunks, as notes want them.
use Rattle.std.specs.Prelude.{◌≤◌, List, ℕ, length, All}
use Rattle.table_core.specs.declared.schema.Column.{Column}
use Rattle.table_sets.specs.declared.limits.TheConstants.{MOST_CHUNKS}
use Rattle.filter_zones.specs.Possible.{FitsZones}
use Rattle.filter_zones.specs.declared.cond.Cond.{Cond}
use Rattle.filter_zones.specs.declared.zone.ChunkZones.{ChunkZones}
use Rattle.sql_bind.specs.Bounds.{FitsRows}

-- a condition that fits each row that the columns may have fits the zones of each of the chunks, which aren't too many
pub record AreZonesOf (columns : List Column) (dicts : List (List (List ℕ))) (zones : List ChunkZones) : Type 0 where
  pub few : length zones ≤ MOST_CHUNKS
  pub fits : (c : Cond) → FitsRows columns dicts c → All (λ chunk. FitsZones c chunk.zones) zones
