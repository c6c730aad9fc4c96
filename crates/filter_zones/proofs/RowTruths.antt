-- The truths of a lane's cells as two bits; `null` says whether a cell is NULL.
use Rattle.std.proofs.Common.{◌≡◌, ◌∙◌, ◌<◌, ℕ, Bool, true, false, not, length, refl, sym, ap, arith}
use Rattle.std.specs.Prelude.{◌&&◌, if◌then◌else◌}
use Rattle.table_core.specs.declared.cell.Cell.{Cell}
use Rattle.table_core.specs.declared.cell.Cell.TheVariants.{Null}
use Rattle.row_blocks.specs.declared.lane.Holds.{Holds}
use Rattle.row_blocks.specs.declared.lane.Holds.TheVariants as holds
use Rattle.row_blocks.specs.declared.lane.Lane.{Lane}
use Rattle.row_blocks.specs.Lanes.{held, lane_cell}
use Rattle.row_blocks.specs.Blocks.{BlockView, lane_at, row_at}
use Rattle.row_blocks.proofs.Rows.{cell-row, length-row}
use Rattle.table_core.specs.declared.op.Op.{Op}
use Rattle.filter_zones.specs.declared.cond.Bound.{Bound}
use Rattle.filter_zones.specs.Truth.{cell_at, comparison, is_met, is_null, null_test, order_of, two_valued}
use Rattle.filter_zones.specs.Truths.{is_true, is_unknown}

and_false : (m : Bool) → (m && false) ≡ false
and_false true = refl
and_false false = refl

two_of : (m : Bool) → ((m && true) ≡ is_true (two_valued m)) × (false ≡ is_unknown (two_valued m))
two_of true = (refl, refl)
two_of false = (refl, refl)

pub not_null : (h : Holds) (word : ℕ) → is_null (held h word) ≡ false
not_null holds.Numbers word = refl
not_null holds.Codes word = refl

-- m says whether the value meets the comparison
pub compared_with : (o : Op) (v : Bound) (x : Cell) (null m r : Bool) → is_null x ≡ false → m ≡ is_met o (order_of x v) → r ≡ (m && not null)
    → (r ≡ is_true (comparison o v (if null then Null else x))) × (null ≡ is_unknown (comparison o v (if null then Null else x)))
compared_with o v x true m r value em er = (er ∙ and_false m, refl)
compared_with o v x false m r value em er = rw (er, value, ← em) (two_of m)

pub null_with : (negated : Bool) (x : Cell) (null r : Bool) → is_null x ≡ false → r ≡ (if negated then not null else null)
    → (r ≡ is_true (null_test negated (if null then Null else x))) × (false ≡ is_unknown (null_test negated (if null then Null else x)))
null_with false x true r value er = (er, refl)
null_with false x false r value er = rw (er, value) (refl, refl)
null_with true x true r value er = (er, refl)
null_with true x false r value er = rw (er, value) (refl, refl)

-- the cell of a column in a row of a block
pub in_column : (b : BlockView) (l : Lane) (x i : ℕ) → x < length (row_at b 0) → l ≡ lane_at b x → lane_cell l i ≡ cell_at (row_at b i) x
in_column b l x i inside at = ap (λ (m : Lane). lane_cell m i) at ∙ sym (cell-row b i x (omega (arith, inside, length-row b 0)))
