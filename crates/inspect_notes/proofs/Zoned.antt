-- The condition of a plan fits the zones of a table's chunks.
use Rattle.std.proofs.Common.{ℕ, List}
use Rattle.std.specs.Prelude.{All, IfSome, Option, Some, None}
use Rattle.table_core.specs.declared.schema.Column.{Column}
use Rattle.filter_zones.specs.Possible.{FitsZones}
use Rattle.filter_zones.specs.declared.cond.Cond.{Cond}
use Rattle.filter_zones.specs.declared.zone.ChunkZones.{ChunkZones}
use Rattle.sql_text.specs.Grammar.{Tree}
use Rattle.sql_bind.specs.Bounds.{HasTruth}
use Rattle.inspect_notes.specs.Zones.{AreZonesOf}

pub fits_where : (columns : List Column) (dicts : List (List (List ℕ))) (t : Option Tree) (c : Option Cond) (zones : List ChunkZones) → HasTruth columns dicts t c → AreZonesOf columns dicts zones
    → IfSome c (λ c. All (λ chunk. FitsZones c chunk.zones) zones)
fits_where columns dicts None None zones truth are = tt
fits_where columns dicts None (Some c) zones truth are = absurd truth
fits_where columns dicts (Some t) None zones truth are = absurd truth
fits_where columns dicts (Some t) (Some c) zones truth are = are.fits c truth.1
