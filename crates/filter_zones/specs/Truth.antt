-- The truth of a condition on a row: False, Unknown or True, in this order.
use Rattle.std.specs.Prelude.{◌<◌, ℕ, Bool, true, false, not, if◌then◌else◌, nat_lt, List, length, slice_index_or, ◌+ℤ◌}
use Rattle.std.specs.Ordering.{is_eq, is_lt, is_le, is_gt, is_ge, int_cmp, nat_cmp}
use Rattle.std.specs.declared.cmp.Ordering.{Ordering}
use Rattle.std.specs.declared.cmp.Ordering.TheVariants.{Less, Equal, Greater}
use Rattle.table_core.specs.declared.cell.Cell.{Cell}
use Rattle.table_core.specs.declared.cell.Cell.TheVariants.{Null, Int, Code}
use Rattle.table_core.specs.declared.op.Op.{Op}
use Rattle.table_core.specs.declared.op.Op.TheVariants as op
use Rattle.filter_zones.specs.declared.cond.Bound.{Bound}
use Rattle.filter_zones.specs.declared.cond.Bound.TheVariants as bound
use Rattle.filter_zones.specs.declared.cond.Cond.{Cond}
use Rattle.filter_zones.specs.declared.cond.Cond.TheVariants as cond
use Rattle.filter_zones.specs.declared.truth.Truth.{Truth}
use Rattle.filter_zones.specs.declared.truth.Truth.TheVariants as truth

-- how a cell stands to a value: a number by its double; a code is below a gap exactly where it is less, and
-- above it otherwise. A cell of another kind than the value is compared with it nowhere
abbrev pub order_of : Cell → Bound → Ordering
order_of (Int n) (bound.Number h) = int_cmp (n +ℤ n) h
order_of (Code k) (bound.Code j) = nat_cmp k j
order_of (Code k) (bound.Gap p) = if nat_lt k p then Less else Greater
order_of _ _ = Equal

-- whether a cell that stands so to a value meets the comparison
abbrev pub is_met : Op → Ordering → Bool
is_met op.Eq o = is_eq o
is_met op.Ne o = not (is_eq o)
is_met op.Lt o = is_lt o
is_met op.Le o = is_le o
is_met op.Gt o = is_gt o
is_met op.Ge o = is_ge o

abbrev pub is_null : Cell → Bool
is_null Null = true
is_null _ = false

abbrev pub two_valued : Bool → Truth
two_valued true = truth.True
two_valued false = truth.False

-- a comparison with NULL is unknown
abbrev pub comparison : Op → Bound → Cell → Truth
comparison o v x = if is_null x then truth.Unknown else two_valued (is_met o (order_of x v))

-- IS NULL, or IS NOT NULL where it is negated: never unknown
abbrev pub null_test : Bool → Cell → Truth
null_test negated x = two_valued (if negated then not (is_null x) else is_null x)

-- AND: the least of both
abbrev pub least : Truth → Truth → Truth
least truth.False b = truth.False
least truth.Unknown truth.False = truth.False
least truth.Unknown truth.Unknown = truth.Unknown
least truth.Unknown truth.True = truth.Unknown
least truth.True b = b

-- OR: the greatest of both
abbrev pub greatest : Truth → Truth → Truth
greatest truth.True b = truth.True
greatest truth.Unknown truth.True = truth.True
greatest truth.Unknown truth.Unknown = truth.Unknown
greatest truth.Unknown truth.False = truth.Unknown
greatest truth.False b = b

-- NOT: False and True are exchanged
abbrev pub opposite : Truth → Truth
opposite truth.True = truth.False
opposite truth.Unknown = truth.Unknown
opposite truth.False = truth.True

-- the cell of a row in a column
abbrev pub cell_at : List Cell → ℕ → Cell
cell_at row x = slice_index_or row x Null

-- the truth of a condition on a row
abbrev pub truth_of : Cond → List Cell → Truth
truth_of (cond.Compare x o v) row = comparison o v (cell_at row x)
truth_of (cond.IsNull x negated) row = null_test negated (cell_at row x)
truth_of (cond.And' p a q b) row = least (truth_of a row) (truth_of b row)
truth_of (cond.Or' p a q b) row = greatest (truth_of a row) (truth_of b row)
truth_of (cond.Not' p a) row = opposite (truth_of a row)

-- the value is of the cell's kind; NULL is of each kind
abbrev pub Fits : Cell → Bound → Type 0
Fits Null v = Unit {0}
Fits (Int n) (bound.Number h) = Unit {0}
Fits (Code k) (bound.Code j) = Unit {0}
Fits (Code k) (bound.Gap p) = Unit {0}
Fits _ _ = ⊥

-- each column of the condition is a place of the row, and each value is of the kind of the cell that it is compared
-- with
abbrev pub FitsRow : Cond → List Cell → Type 0
FitsRow (cond.Compare x o v) row = (x < length row) × Fits (cell_at row x) v
FitsRow (cond.IsNull x negated) row = x < length row
FitsRow (cond.And' p a q b) row = FitsRow a row × FitsRow b row
FitsRow (cond.Or' p a q b) row = FitsRow a row × FitsRow b row
FitsRow (cond.Not' p a) row = FitsRow a row
