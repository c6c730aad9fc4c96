-- The truth of a query's condition on a row of values.
use Rattle.std.specs.Prelude.{ℕ, ◌^◌, Bool, true, false, not, if◌then◌else◌, List, ℤ, pos, ◌*ℤ◌, slice_index_or}
use Rattle.std.specs.Ordering.{int_cmp}
use Rattle.std.specs.declared.cmp.Ordering.{Ordering}
use Rattle.std.specs.declared.cmp.Ordering.TheVariants.{Equal}
use Rattle.table_core.specs.Fitting.{kind_at}
use Rattle.table_core.specs.Dict.{text_cmp}
use Rattle.table_core.specs.Value.{Value, none, number, text, places_of}
use Rattle.table_core.specs.declared.op.Op.{Op}
use Rattle.table_core.specs.declared.schema.Column.{Column}
use Rattle.table_core.specs.declared.schema.Kind.{Kind}
use Rattle.filter_zones.specs.Truth.{is_met, two_valued, least, greatest, opposite}
use Rattle.filter_zones.specs.declared.truth.Truth.{Truth}
use Rattle.filter_zones.specs.declared.truth.Truth.TheVariants as truth
use Rattle.sql_text.specs.declared.condition.Literal.{Literal}
use Rattle.sql_text.specs.declared.condition.Literal.TheVariants as literal
use Rattle.sql_text.specs.Grammar.{Tree, Compare, NullTest, Both, Either, Negated}
use Rattle.sql_bind.specs.Names.{column_of}

-- how n with s places stands to m with p places: n * 10^p to m * 10^s
abbrev pub number_order : ℤ → ℕ → ℤ → ℕ → Ordering
number_order n s m p = int_cmp (n *ℤ pos (10 ^ p)) (m *ℤ pos (10 ^ s))

-- how a value of a column of this kind stands to a literal; a value of another kind than the literal is compared with
-- it nowhere
abbrev pub value_order : Kind → Literal → Value → Ordering
value_order k (literal.Int m) (number n) = number_order n (places_of k) m 0
value_order k (literal.Dec m p) (number n) = number_order n (places_of k) m p
value_order k (literal.Text t) (text u) = text_cmp u t
value_order _ _ _ = Equal

abbrev pub is_none : Value → Bool
is_none none = true
is_none _ = false

-- a comparison with NULL is unknown
abbrev pub compared : Op → Kind → Literal → Value → Truth
compared o k l v = if is_none v then truth.Unknown else two_valued (is_met o (value_order k l v))

-- IS NULL, or IS NOT NULL where it is negated: never unknown
abbrev pub tested : Bool → Value → Truth
tested negated v = two_valued (if negated then not (is_none v) else is_none v)

-- the value of a row in a column
abbrev pub value_at : List Value → ℕ → Value
value_at row x = slice_index_or row x none

-- THE TRUTH of a query's condition on a row of values
abbrev pub truth_over : List Column → Tree → List Value → Truth
truth_over columns (Compare c o l) row = compared o (kind_at columns (column_of columns c)) l
    (value_at row (column_of columns c))
truth_over columns (NullTest c negated) row = tested negated (value_at row (column_of columns c))
truth_over columns (Both a b) row = least (truth_over columns a row) (truth_over columns b row)
truth_over columns (Either a b) row = greatest (truth_over columns a row) (truth_over columns b row)
truth_over columns (Negated a) row = opposite (truth_over columns a row)
