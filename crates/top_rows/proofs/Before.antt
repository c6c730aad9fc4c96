-- How rows stand is a total order, and rows of two numbers never tie.
use Rattle.std.proofs.Common.{◌≡◌, Bool, true, false, List, [], ◌∷◌, refl, sym, ap, ◌∙◌, inl, inr}
use Rattle.std.specs.Prelude.{◌==◌, if◌then◌else◌}
use Rattle.std.proofs.lemmas.Bool.{cases_Bool, false≢true}
use Rattle.std.specs.declared.cmp.Ordering.{Ordering}
use Rattle.std.specs.declared.cmp.Ordering.TheVariants.{Less, Equal, Greater}
use Rattle.std.specs.Ordering.{is_lt, ordering_then, ordering_reverse, nat_cmp}
use Rattle.std.specs.Cmp.{IsTotalOrder}
use Rattle.std.specs.Cmp.Derive.{point_total}
use Rattle.std.proofs.lemmas.Cmp.{nat_cmp_total, nat_eq_equiv, alike_right, on_total, then_total, back_total}
use Rattle.std.proofs.lemmas.Map.Lookups.{exact_unsigned}
use Rattle.table_core.specs.declared.cell.Cell.{Cell}
use Rattle.query_meaning.specs.Cells.{codes}
use Rattle.query_meaning.specs.Meaning.{cell}
use Rattle.agg_groups.proofs.Order.{cell_total}
use Rattle.query_meaning.specs.declared.order.Order.{Order}
use Rattle.query_meaning.specs.Rows.{Numbered, order_cmp, orders_cmp, row_cmp}

abbrev pub Row : Type 0
Row = Numbered Cell

-- whether a row stands before another
abbrev pub before : List Order → Row → Row → Bool
before orders a b = is_lt (row_cmp codes orders a b)

turned_total : (b : Bool) {K : Type 0} {R : K → K → Ordering} → IsTotalOrder R → IsTotalOrder (λ (x y : K). if b then R y x else R x y)
turned_total true o = back_total o
turned_total false o = o

order_total : (o : Order) → IsTotalOrder (order_cmp codes o)
order_total o = turned_total o.descending (on_total (λ row. cell codes row o.column) cell_total)

orders_total : (orders : List Order) → IsTotalOrder (orders_cmp codes orders)
orders_total [] = point_total
orders_total (o ∷ orders) = then_total (order_total o) (orders_total orders)

pub row_total : (orders : List Order) → IsTotalOrder (row_cmp codes orders)
row_total orders = then_total (on_total (λ (r : Row). r.1) (orders_total orders)) (on_total (λ (r : Row). r.0) nat_cmp_total)

pub then_both : (o p : Ordering) → ordering_then o p ≡ Equal → (o ≡ Equal) × (p ≡ Equal)
then_both Less p e = cc
then_both Equal p e = (refl, e)
then_both Greater p e = cc

pub is_lt-Less : (o : Ordering) → is_lt o ≡ true → o ≡ Less
is_lt-Less Less e = refl
is_lt-Less Equal e = absurd (false≢true e)
is_lt-Less Greater e = absurd (false≢true e)

module _ (orders : List Order) where
  -- rows that tie have one number
  pub row_tie : (a b : Row) → row_cmp codes orders a b ≡ Equal → (a.0 == b.0) ≡ true
  row_tie a b e = ap (λ n. a.0 == n) (sym (exact_unsigned a.0 b.0 (then_both (orders_cmp codes orders a.1 b.1) (nat_cmp a.0 b.0) e).1)) ∙ nat_eq_equiv.refl a.0

  pub before_back : (a b : Row) → before orders a b ≡ true → before orders b a ≡ false
  before_back a b e = ap is_lt ((row_total orders).antisymm b a ∙ ap ordering_reverse (is_lt-Less (row_cmp codes orders a b) e))

  pub before_other : (a b : Row) → (a.0 == b.0) ≡ false → before orders a b ≡ false → before orders b a ≡ true
  before_other a b n e = by (row_cmp codes orders a b) refl where
    by : (o : Ordering) → row_cmp codes orders a b ≡ o → before orders b a ≡ true
    by Less h = absurd (false≢true (sym e ∙ ap is_lt h))
    by Equal h = absurd (false≢true (sym n ∙ row_tie a b h))
    by Greater h = ap is_lt ((row_total orders).antisymm b a ∙ ap ordering_reverse h)

  pub before_trans : (a b c : Row) → before orders a b ≡ true → before orders b c ≡ true → before orders a c ≡ true
  before_trans a b c e f = ap is_lt ((row_total orders).trans a b c (is_lt-Less (row_cmp codes orders a b) e) (is_lt-Less (row_cmp codes orders b c) f))

  -- what doesn't stand before the last one stands before none
  pub before_none : (r last q : Row) → before orders r last ≡ false → before orders last q ≡ false → before orders r q ≡ false
  before_none r last q e f = elim (cases_Bool (before orders r q)) [
    | inl t ↦ by (row_cmp codes orders last q) refl t
    | inr t ↦ t
  ] where
    by : (o : Ordering) → row_cmp codes orders last q ≡ o → before orders r q ≡ true → before orders r q ≡ false
    by Less h t = absurd (false≢true (sym f ∙ ap is_lt h))
    by Equal h t = ap is_lt (sym (alike_right (row_total orders) last q r h)) ∙ e
    by Greater h t = absurd (false≢true (sym e ∙ before_trans r q last t (ap is_lt ((row_total orders).antisymm q last ∙ ap ordering_reverse h))))
