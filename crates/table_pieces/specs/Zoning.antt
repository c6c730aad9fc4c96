-- The zones of the chunks of a table, and the rows in each chunk.
use Rattle.std.specs.Prelude.{◌≡◌, ◌≢◌, ◌<◌, ℕ, Bool, true, false, List, length, map, filter, All, Option, IfSome}
use Rattle.std.specs.List.{flat_map, range_with_len}
use Rattle.table_core.specs.Chunk.{chunk}
use Rattle.table_sets.specs.Sets.{has}
use Rattle.table_core.specs.declared.cell.Cell.{Cell}
use Rattle.piece_format.specs.Shape.{TableShape, chunks}
use Rattle.filter_zones.specs.Possible.{chunk_at}
use Rattle.filter_zones.specs.Truth.{truth_of}
use Rattle.filter_zones.specs.Zone.{CoversRow, zones_of}
use Rattle.filter_zones.specs.declared.cond.Cond.{Cond}
use Rattle.filter_zones.specs.declared.truth.Truth.TheVariants.{True}
use Rattle.filter_zones.specs.declared.zone.ChunkZones.{ChunkZones}

-- the zones of one chunk of a table
abbrev pub zones_in : TableShape → List (List Cell) → ℕ → ChunkZones
zones_in s rows c = record { zones = zones_of (length s.kinds) (chunk rows s.per c) }

-- the zones of each chunk, from the first to the last
abbrev pub chunk_zones : TableShape → List (List Cell) → List ChunkZones
chunk_zones s rows = map (zones_in s rows) (range_with_len 0 (chunks s))

-- the zones of each chunk have room for each row of the chunk
abbrev pub CoverChunks : TableShape → List (List Cell) → List ChunkZones → Type 0
CoverChunks s rows zones = (c : ℕ) → c < chunks s → All (CoversRow (chunk_at zones c).zones) (chunk rows s.per c)

-- no row of a chunk outside the set makes the condition true
abbrev pub NoMatchOutside : TableShape → List (List Cell) → Cond → List ℕ → Type 0
NoMatchOutside s rows cond members = (c : ℕ) → c < chunks s → has members c ≡ false
    → All (λ row. truth_of cond row ≢ True) (chunk rows s.per c)

-- a row passes only where the condition is true of it; without a condition any row may pass
abbrev pub PassesOnly : (List Cell → Bool) → Option Cond → Type 0
PassesOnly passes cond = (row : List Cell) → passes row ≡ true → IfSome cond (λ c. truth_of c row ≡ True)

-- the rows that pass in the chunks of the set, one chunk after another, are all rows that pass
abbrev pub HaveAllThatPass : TableShape → List (List Cell) → (List Cell → Bool) → List ℕ → Type 0
HaveAllThatPass s rows passes members = flat_map (λ c. filter passes (chunk rows s.per c)) members ≡ filter passes rows
