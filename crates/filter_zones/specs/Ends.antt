-- How the least and the greatest cell of a zone stand to a value, and the truths of a comparison by that.
use Rattle.std.specs.Prelude.{ℕ, Bool, true, false, not, ◌&&◌, ◌||◌, Option, Some, None}
use Rattle.std.specs.Ordering.{is_lt, is_gt}
use Rattle.std.specs.declared.cmp.Ordering.{Ordering}
use Rattle.table_core.specs.declared.cell.Cell.{Cell}
use Rattle.table_core.specs.declared.op.Op.{Op}
use Rattle.table_core.specs.declared.op.Op.TheVariants as op
use Rattle.filter_zones.specs.declared.cond.Bound.{Bound}
use Rattle.filter_zones.specs.declared.ends.Ends.{Ends}
use Rattle.filter_zones.specs.declared.ends.EndMasks.{EndMasks}
use Rattle.filter_zones.specs.declared.truth_set.TruthSet.{TruthSet}
use Rattle.filter_zones.specs.declared.zone.ChunkZones.{ChunkZones}
use Rattle.filter_zones.specs.Truth.{order_of}
use Rattle.filter_zones.specs.Zone.{zone_at}
use Rattle.filter_zones.specs.Masks.{is_set}

-- of a zone with values, whose least cell stands to a value as lo and whose greatest as hi
abbrev pub stand : Bool → Ordering → Ordering → Ends
stand null lo hi = record {
  has_null = null;
  there = true;
  low_below = is_lt lo;
  low_above = is_gt lo;
  high_below = is_lt hi;
  high_above = is_gt hi;
}

-- of a zone; without values nothing stands on any side
abbrev pub ends_of : Bound → Bool → Option (Cell × Cell) → Ends
ends_of v null None = record {
  has_null = null;
  there = false;
  low_below = false;
  low_above = false;
  high_below = false;
  high_above = false;
}
ends_of v null (Some p) = stand null (order_of p.0 v) (order_of p.1 v)

-- of a column of a chunk
abbrev pub column_ends : ℕ → Bound → ChunkZones → Ends
column_ends x v chunk = let zone = zone_at chunk.zones x in ends_of v zone.has_null zone.range

-- the ends of chunk k
abbrev pub ends_at : EndMasks → ℕ → Ends
ends_at m k = record {
  has_null = is_set m.has_null k;
  there = is_set m.there k;
  low_below = is_set m.low_below k;
  low_above = is_set m.low_above k;
  high_below = is_set m.high_below k;
  high_above = is_set m.high_above k;
}

-- an end lies on one side of the value
abbrev pub differ : Ends → Bool
differ e = ((e.low_below || e.low_above) || e.high_below) || e.high_above

-- the value lies between the ends
abbrev pub between : Ends → Bool
between e = (e.there && not e.low_above) && not e.high_below

-- the truths of a comparison with that value
abbrev pub truths_of : Op → Ends → TruthSet
truths_of op.Eq e = record { can_false = differ e; can_unknown = e.has_null; can_true = between e }
truths_of op.Ne e = record { can_false = between e; can_unknown = e.has_null; can_true = differ e }
truths_of op.Lt e = record { can_false = e.there && not e.high_below; can_unknown = e.has_null; can_true = e.low_below }
truths_of op.Le e = record { can_false = e.high_above; can_unknown = e.has_null; can_true = e.there && not e.low_above }
truths_of op.Gt e = record { can_false = e.there && not e.low_above; can_unknown = e.has_null; can_true = e.high_above }
truths_of op.Ge e = record { can_false = e.low_below; can_unknown = e.has_null; can_true = e.there && not e.high_below }
