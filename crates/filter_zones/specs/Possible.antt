-- The truths that a condition may have in a chunk with these zones, and the chunks that a query needs.
use Rattle.std.specs.Prelude.{◌≡◌, ◌<◌, ℕ, Bool, true, false, not, ◌&&◌, ◌||◌, List}
use Rattle.std.specs.Prelude.{[], length, Option, Some, None, slice_index_or, is_some}
use Rattle.std.specs.Ordering.{is_eq, is_lt, is_le, is_gt, is_ge}
use Rattle.std.specs.declared.cmp.Ordering.{Ordering}
use Rattle.table_sets.specs.Sets.{numbers_below, has as has_member}
use Rattle.table_core.specs.declared.cell.Cell.{Cell}
use Rattle.table_core.specs.declared.op.Op.{Op}
use Rattle.table_core.specs.declared.op.Op.TheVariants as op
use Rattle.filter_zones.specs.declared.cond.Bound.{Bound}
use Rattle.filter_zones.specs.declared.cond.Cond.{Cond}
use Rattle.filter_zones.specs.declared.cond.Cond.TheVariants as cond
use Rattle.filter_zones.specs.declared.truth.Truth.{Truth}
use Rattle.filter_zones.specs.declared.truth.Truth.TheVariants as truth
use Rattle.filter_zones.specs.declared.truth_set.TruthSet.{TruthSet}
use Rattle.filter_zones.specs.declared.zone.Zone.{Zone}
use Rattle.filter_zones.specs.declared.zone.ChunkZones.{ChunkZones}
use Rattle.filter_zones.specs.Truth.{order_of, least, greatest, truth_of, Fits, FitsRow}
use Rattle.filter_zones.specs.Zone.{zone_at, CoversRow}

-- where the least cell stands to a value as `lo`, and the greatest as `hi`

-- lo <= v <= hi
abbrev pub is_between : Ordering → Ordering → Bool
is_between lo hi = is_le lo && is_ge hi

-- lo = v = hi
abbrev pub is_only : Ordering → Ordering → Bool
is_only lo hi = is_eq lo && is_eq hi

-- whether a comparison may be true
abbrev pub may_hold : Op → Ordering → Ordering → Bool
may_hold op.Eq lo hi = is_between lo hi
may_hold op.Ne lo hi = not (is_only lo hi)
may_hold op.Lt lo hi = is_lt lo
may_hold op.Le lo hi = is_le lo
may_hold op.Gt lo hi = is_gt hi
may_hold op.Ge lo hi = is_ge hi

-- whether a comparison may be false
abbrev pub may_fail : Op → Ordering → Ordering → Bool
may_fail op.Eq lo hi = not (is_only lo hi)
may_fail op.Ne lo hi = is_between lo hi
may_fail op.Lt lo hi = is_ge hi
may_fail op.Le lo hi = is_gt hi
may_fail op.Gt lo hi = is_le lo
may_fail op.Ge lo hi = is_lt lo

-- a comparison over the cells of a range; where no value stands it is neither true nor false
abbrev pub ranged : Op → Bound → Bool → Option (Cell × Cell) → TruthSet
ranged o v null None = record { can_false = false; can_unknown = null; can_true = false }
ranged o v null (Some p) = record {
  can_false = may_fail o (order_of p.0 v) (order_of p.1 v);
  can_unknown = null;
  can_true = may_hold o (order_of p.0 v) (order_of p.1 v);
}

-- IS NULL, or IS NOT NULL where it is negated
abbrev pub null_tests : Bool → Zone → TruthSet
null_tests false z = record { can_false = is_some z.range; can_unknown = false; can_true = z.has_null }
null_tests true z = record { can_false = z.has_null; can_unknown = false; can_true = is_some z.range }

-- whether a truth is in a set
abbrev pub has : TruthSet → Truth → Bool
has s truth.False = s.can_false
has s truth.Unknown = s.can_unknown
has s truth.True = s.can_true

abbrev pub is_same : Truth → Truth → Bool
is_same truth.False truth.False = true
is_same truth.Unknown truth.Unknown = true
is_same truth.True truth.True = true
is_same _ _ = false

-- whether some truth passes
abbrev pub some_truth : (Truth → Bool) → Bool
some_truth f = f truth.False || (f truth.Unknown || f truth.True)

-- whether t is the f of a truth of a and one of b
abbrev pub is_pair : (Truth → Truth → Truth) → TruthSet → TruthSet → Truth → Bool
is_pair f a b t = some_truth (λ x. some_truth (λ y. has a x && (has b y && is_same (f x y) t)))

-- the f of a truth of a and one of b, over all pairs
abbrev pub pairs : (Truth → Truth → Truth) → TruthSet → TruthSet → TruthSet
pairs f a b = record {
  can_false = is_pair f a b truth.False;
  can_unknown = is_pair f a b truth.Unknown;
  can_true = is_pair f a b truth.True;
}

-- the opposites of a set's truths
abbrev pub opposites : TruthSet → TruthSet
opposites s = record { can_false = s.can_true; can_unknown = s.can_unknown; can_true = s.can_false }

-- the truths that a condition may have in a chunk with these zones
abbrev pub possible : Cond → List Zone → TruthSet
possible (cond.Compare x o v) zones = ranged o v (zone_at zones x).has_null (zone_at zones x).range
possible (cond.IsNull x negated) zones = null_tests negated (zone_at zones x)
possible (cond.And' p a q b) zones = pairs least (possible a zones) (possible b zones)
possible (cond.Or' p a q b) zones = pairs greatest (possible a zones) (possible b zones)
possible (cond.Not' p a) zones = opposites (possible a zones)

-- the value is of the kind of the range's cells
abbrev pub FitsRange : Option (Cell × Cell) → Bound → Type 0
FitsRange None v = Unit {0}
FitsRange (Some p) v = Fits p.0 v × Fits p.1 v

-- each column of the condition has a zone, and each value is of the kind of the cells in its column's zone
abbrev pub FitsZones : Cond → List Zone → Type 0
FitsZones (cond.Compare x o v) zones = (x < length zones) × FitsRange (zone_at zones x).range v
FitsZones (cond.IsNull x negated) zones = x < length zones
FitsZones (cond.And' p a q b) zones = FitsZones a zones × FitsZones b zones
FitsZones (cond.Or' p a q b) zones = FitsZones a zones × FitsZones b zones
FitsZones (cond.Not' p a) zones = FitsZones a zones

-- the set has the truth of each row that the zones have room for
abbrev pub HoldsEachRow : Cond → List Zone → TruthSet → Type 0
HoldsEachRow c zones truths = (row : List Cell) → FitsRow c row → CoversRow zones row
    → has truths (truth_of c row) ≡ true

-- whether a query with this condition, or without one, needs a chunk with these zones: True is possible there
abbrev pub is_needed : Option Cond → ChunkZones → Bool
is_needed None chunk = true
is_needed (Some c) chunk = (possible c chunk.zones).can_true

-- the zones of a chunk
abbrev pub chunk_at : List ChunkZones → ℕ → ChunkZones
chunk_at chunks c = slice_index_or chunks c (record { zones = [] })

-- the chunks that a query with this condition needs, in rising order
abbrev pub needed : Option Cond → List ChunkZones → List ℕ
needed cond chunks = numbers_below (λ c. is_needed cond (chunk_at chunks c)) (length chunks)

-- no row that the zones have room for makes the condition true
abbrev pub HasNoTrueRow : Cond → List Zone → Type 0
HasNoTrueRow c zones = (row : List Cell) → FitsRow c row → CoversRow zones row → truth_of c row ≡ truth.True → ⊥

-- no row of a chunk outside the set makes the condition true
abbrev pub NoneTrueOutside : Cond → List ChunkZones → List ℕ → Type 0
NoneTrueOutside c chunks members = (k : ℕ) → k < length chunks → has_member members k ≡ false
    → HasNoTrueRow c (chunk_at chunks k).zones
