-- The parts that a condition demands, and in which chunks they may have the truth that is asked of them.
use Rattle.std.specs.Prelude.{ℕ, Bool, true, false, not, List, [], ◌∷◌, ◌++◌}
use Rattle.std.specs.List.{list_all}
use Rattle.filter_zones.specs.Possible.{possible}
use Rattle.filter_zones.specs.declared.cond.Cond.{Cond}
use Rattle.filter_zones.specs.declared.cond.Cond.TheVariants as cond
use Rattle.filter_zones.specs.declared.zone.ChunkZones.{ChunkZones}

-- a part of a condition, and what is asked of it: True where `true` stands before it, False where `false` does
abbrev pub Part : Type 0
Part = Bool × Cond

-- THE PARTS THAT A CONDITION DEMANDS of a row so that it has the truth asked of it, from left to right: comparisons,
-- tests for NULL, and choices, of which one side is enough. A choice is an OR that is to be True, or an AND that is to
-- be False
abbrev pub demanded : Bool → Cond → List Part
demanded want (cond.Compare x o v) = (want, cond.Compare x o v) ∷ []
demanded want (cond.IsNull x negated) = (want, cond.IsNull x negated) ∷ []
demanded true (cond.And' p a q b) = demanded true a ++ demanded true b
demanded false (cond.And' p a q b) = (false, cond.And' p a q b) ∷ []
demanded true (cond.Or' p a q b) = (true, cond.Or' p a q b) ∷ []
demanded false (cond.Or' p a q b) = demanded false a ++ demanded false b
demanded want (cond.Not' p a) = demanded (not want) a

-- whether a row of a chunk with these zones may have what is asked of the condition
abbrev pub may_have : Bool → Cond → ChunkZones → Bool
may_have true c chunk = (possible c chunk.zones).can_true
may_have false c chunk = (possible c chunk.zones).can_false

-- in each chunk
abbrev pub in_each : Bool → Cond → List ChunkZones → Bool
in_each want c zones = list_all (may_have want c) zones

-- the first column that a condition compares or tests
abbrev pub first_column : Cond → ℕ
first_column (cond.Compare x o v) = x
first_column (cond.IsNull x negated) = x
first_column (cond.And' p a q b) = first_column a
first_column (cond.Or' p a q b) = first_column a
first_column (cond.Not' p a) = first_column a
