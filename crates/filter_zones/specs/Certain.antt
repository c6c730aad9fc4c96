-- A condition that is true of all rows of a chunk with these zones.
use Rattle.std.specs.Prelude.{◌≡◌, ◌&&◌, Bool, not, List}
use Rattle.table_core.specs.declared.cell.Cell.{Cell}
use Rattle.filter_zones.specs.declared.cond.Cond.{Cond}
use Rattle.filter_zones.specs.declared.truth.Truth.TheVariants as truth
use Rattle.filter_zones.specs.declared.truth_set.TruthSet.{TruthSet}
use Rattle.filter_zones.specs.declared.zone.Zone.{Zone}
use Rattle.filter_zones.specs.Truth.{FitsRow, truth_of}
use Rattle.filter_zones.specs.Zone.{CoversRow}

-- no truth but True is in the set
abbrev pub is_only_true : TruthSet → Bool
is_only_true s = not s.can_false && not s.can_unknown

-- each row that the zones have room for makes the condition true
abbrev pub IsTrueOfEachRow : Cond → List Zone → Type 0
IsTrueOfEachRow c zones = (row : List Cell) → FitsRow c row → CoversRow zones row → truth_of c row ≡ truth.True
