-- What stands in the way of leaving chunks out.
use Rattle.std.specs.Prelude.{◌==◌, ◌&&◌, ℕ, Bool, true, false, not, nat_lt, List, []}
use Rattle.std.specs.Prelude.{◌∷◌, map, length, Option, Some, None, if◌then◌else◌}
use Rattle.filter_zones.specs.Possible.{needed}
use Rattle.filter_zones.specs.declared.cond.Bound.{Bound}
use Rattle.filter_zones.specs.declared.cond.Bound.TheVariants as bound
use Rattle.filter_zones.specs.declared.cond.Cond.{Cond}
use Rattle.filter_zones.specs.declared.cond.Cond.TheVariants as cond
use Rattle.filter_zones.specs.declared.zone.ChunkZones.{ChunkZones}
use Rattle.inspect_notes.specs.declared.obstacle.Choice.{Choice}
use Rattle.inspect_notes.specs.declared.obstacle.Choice.TheVariants.{Either, NotBoth}
use Rattle.inspect_notes.specs.declared.obstacle.Obstacle.{Obstacle}
use Rattle.inspect_notes.specs.declared.obstacle.Obstacle.TheVariants.{NoWhere, Numbers, Texts, Nulls, Side, Sides}
use Rattle.inspect_notes.specs.Parts.{Part, demanded, first_column, in_each}

-- a comparison of a column, by what it is compared with
abbrev pub comparison : ℕ → Bound → Obstacle
comparison x (bound.Number h) = Numbers x
comparison x (bound.Code k) = Texts x
comparison x (bound.Gap place) = Texts x

-- one of two sides is to be True, or one of them is to be False
abbrev pub choice_of : Bool → Choice
choice_of true = Either
choice_of false = NotBoth

-- a choice between two sides: one side alone may be had in each chunk, the first that may; or only both together
abbrev pub choice : Bool → Cond → Cond → List ChunkZones → Obstacle
choice want a b zones =
    if in_each want a zones then Side (first_column a) (choice_of want)
    else (if in_each want b zones then Side (first_column b) (choice_of want) else Sides (choice_of want))

-- what a part is that the zones of each chunk allow
abbrev pub obstacle_at : List ChunkZones → Part → Obstacle
obstacle_at zones (want, cond.Compare x o v) = comparison x v
obstacle_at zones (want, cond.IsNull x negated) = Nulls x
obstacle_at zones (want, cond.And' p a q b) = choice want a b zones
obstacle_at zones (want, cond.Or' p a q b) = choice want a b zones
obstacle_at zones (want, cond.Not' p a) = obstacle_at zones (not want, a)

-- no chunk is left out: as many are needed as there are, at least one
abbrev pub leaves_nothing_out : Option Cond → List ChunkZones → Bool
leaves_nothing_out c zones = nat_lt 0 (length zones) && (length (needed c zones) == length zones)

-- each part that the condition demands, or that there is no condition
abbrev pub in_the_way : Option Cond → List ChunkZones → List Obstacle
in_the_way None zones = NoWhere ∷ []
in_the_way (Some c) zones = map (obstacle_at zones) (demanded true c)

-- WHAT STANDS IN THE WAY, where no chunk is left out
abbrev pub obstacles_of : Option Cond → List ChunkZones → List Obstacle
obstacles_of c zones = if leaves_nothing_out c zones then in_the_way c zones else []
