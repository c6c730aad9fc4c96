-- What holds of the parts that a condition demands.
use Rattle.std.specs.Prelude.{◌≡◌, Bool, true, false, List, All}
use Rattle.table_core.specs.declared.cell.Cell.{Cell}
use Rattle.filter_zones.specs.Truth.{truth_of}
use Rattle.filter_zones.specs.declared.cond.Cond.{Cond}
use Rattle.filter_zones.specs.declared.truth.Truth.{Truth}
use Rattle.filter_zones.specs.declared.truth.Truth.TheVariants.{False, True}
use Rattle.filter_zones.specs.declared.zone.ChunkZones.{ChunkZones}
use Rattle.inspect_notes.specs.Parts.{Part, demanded, in_each}

-- the truth that is asked for
abbrev pub asked : Bool → Truth
asked true = True
asked false = False

-- a row that has the truth asked of a condition has in each demanded part the truth asked of this
abbrev pub HasItsParts : Bool → Cond → List Cell → Type 0
HasItsParts want c row = truth_of c row ≡ asked want
    → All (λ (p : Part). truth_of p.1 row ≡ asked p.0) (demanded want c)

-- where each chunk may have what is asked of a condition, each may have what is asked of each demanded part
abbrev pub AllowsItsParts : Bool → Cond → List ChunkZones → Type 0
AllowsItsParts want c zones = in_each want c zones ≡ true
    → All (λ (p : Part). in_each p.0 p.1 zones ≡ true) (demanded want c)
