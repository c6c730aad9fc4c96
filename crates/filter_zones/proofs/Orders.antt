-- The order of cells is total, and so it has a least and a greatest of any cells.
use Rattle.std.proofs.Common.{◌≡◌, ℕ, true, false, List, [], ◌∷◌, refl, sym, ap, subst, ◌∙◌}
use Rattle.std.specs.Prelude.{ℤ, pos, fold, if◌then◌else◌}
use Rattle.std.specs.List.{AllByRecursion}
use Rattle.std.specs.Cmp.{IsTotalOrder}
use Rattle.std.specs.declared.cmp.Ordering.{Ordering}
use Rattle.std.specs.declared.cmp.Ordering.TheVariants.{Less, Equal, Greater}
use Rattle.std.specs.Ordering.{is_gt, is_le, int_cmp, nat_cmp, then_cmp, ordering_then, ordering_reverse, on}
use Rattle.std.proofs.lemmas.Bool.{cond_both, false≢true}
use Rattle.std.proofs.lemmas.Cmp.{then_total, on_total, nat_cmp_total, int_cmp_total, upto, tied_itself}
use Rattle.table_core.specs.Cell.{cell_cmp}
use Rattle.table_core.specs.declared.cell.Cell.{Cell}
use Rattle.table_core.specs.declared.cell.Cell.TheVariants.{Null, Int, Code}

-- the order of cells is by kind, then by number, then by code

abbrev kind : Cell → ℕ
kind Null = 0
kind (Int n) = 1
kind (Code k) = 2

abbrev number : Cell → ℤ
number (Int n) = n
number _ = pos 0

abbrev code : Cell → ℕ
code (Code k) = k
code _ = 0

abbrev by_parts : Cell → Cell → Ordering
by_parts = then_cmp (on kind nat_cmp) (then_cmp (on number int_cmp) (on code nat_cmp))

then_last : (o : Ordering) → ordering_then o Equal ≡ o
then_last Less = refl
then_last Equal = refl
then_last Greater = refl

parts_are : (a b : Cell) → by_parts a b ≡ cell_cmp a b
parts_are Null Null = refl
parts_are Null (Int n) = refl
parts_are Null (Code n) = refl
parts_are (Int m) Null = refl
parts_are (Int m) (Int n) = then_last (int_cmp m n)
parts_are (Int m) (Code n) = refl
parts_are (Code m) Null = refl
parts_are (Code m) (Int n) = refl
parts_are (Code m) (Code n) = refl

pub cell_total : IsTotalOrder cell_cmp
cell_total = subst (λ (R : Cell → Cell → Ordering). IsTotalOrder R) (λ i a b. parts_are a b i) (then_total (on_total kind nat_cmp_total) (then_total (on_total number int_cmp_total) (on_total code nat_cmp_total)))

-- ---- the first of some values by an order

module _ {K : Type 0} (R : K → K → Ordering) where
  -- the earlier of two
  abbrev pub earlier : K → K → K
  earlier a b = if is_gt (R a b) then b else a

  -- what holds of all of them holds of the earliest
  pub earliest_keeps : (P : K → Type 0) (v : K) (vs : List K) → P v → AllByRecursion P vs → P (fold earlier v vs)
  earliest_keeps P v [] here all = here
  earliest_keeps P v (w ∷ ws) here all = earliest_keeps P (earlier v w) ws (cond_both (is_gt (R v w)) w v P (λ _. all.0) (λ _. here)) all.1

is_le-from_gt : (o : Ordering) → is_gt o ≡ false → is_le o ≡ true
is_le-from_gt Less e = refl
is_le-from_gt Equal e = refl
is_le-from_gt Greater e = absurd (false≢true (sym e))

is_gt-from_le : (o : Ordering) → is_le o ≡ true → is_gt o ≡ false
is_gt-from_le Less e = refl
is_gt-from_le Equal e = refl
is_gt-from_le Greater e = absurd (false≢true e)

is_le-back : (o : Ordering) → is_gt o ≡ true → is_le (ordering_reverse o) ≡ true
is_le-back Less e = absurd (false≢true e)
is_le-back Equal e = absurd (false≢true e)
is_le-back Greater e = refl

module _ {K : Type 0} {R : K → K → Ordering} (o : IsTotalOrder R) where
  pub le_trans : (x y z : K) → is_le (R x y) ≡ true → is_le (R y z) ≡ true → is_le (R x z) ≡ true
  le_trans x y z e f = is_le-from_gt (R x z) (upto o x y z (is_gt-from_le (R x y) e) (is_gt-from_le (R y z) f))

  le_itself : (x : K) → is_le (R x x) ≡ true
  le_itself x = ap is_le (tied_itself o x)

  -- the earlier of two is at most both
  le_first : (a b : K) → is_le (R (earlier R a b) a) ≡ true
  le_first a b = cond_both (is_gt (R a b)) b a (λ m. is_le (R m a) ≡ true) (λ e. ap is_le (o.antisymm b a) ∙ is_le-back (R a b) e) (λ _. le_itself a)

  le_second : (a b : K) → is_le (R (earlier R a b) b) ≡ true
  le_second a b = cond_both (is_gt (R a b)) b a (λ m. is_le (R m b) ≡ true) (λ _. le_itself b) (λ e. is_le-from_gt (R a b) e)

  -- what is at most the earliest is at most each
  below_all : (m v : K) (vs : List K) → is_le (R m (fold (earlier R) v vs)) ≡ true → AllByRecursion (λ x. is_le (R m x) ≡ true) (v ∷ vs)
  below_all m v [] below = (below, tt)
  below_all m v (w ∷ ws) below =
      let rest = below_all m (earlier R v w) ws below in
      (le_trans m (earlier R v w) v rest.0 (le_first v w), (le_trans m (earlier R v w) w rest.0 (le_second v w), rest.1))

  pub earliest_is_least : (v : K) (vs : List K) → AllByRecursion (λ x. is_le (R (fold (earlier R) v vs) x) ≡ true) (v ∷ vs)
  earliest_is_least v vs = below_all (fold (earlier R) v vs) v vs (le_itself (fold (earlier R) v vs))
