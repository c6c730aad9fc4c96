-- A column's zone is its zone by property, and has room for each of its cells.
use Rattle.std.proofs.Common.{◌≡◌, Bool, true, false, not, List, [], ◌∷◌, get_or, refl, sym, ◌∙◌}
use Rattle.std.specs.Prelude.{if◌then◌else◌, filter, fold, Some, All, Contains}
use Rattle.std.specs.List.{AllByRecursion}
use Rattle.std.specs.Ordering.{is_le}
use Rattle.std.specs.declared.cmp.Ordering.{Ordering}
use Rattle.std.proofs.lemmas.Bool.{false≢true, not-true}
use Rattle.std.proofs.lemmas.Cmp.{back_total}
use Rattle.std.proofs.lemmas.List.Elements.{All-from_recursion, recursion_from_All, All-contains_itself, filter_passes}
use Rattle.std.proofs.lemmas.List.Folds.{list_any_at}
use Rattle.table_core.specs.Cell.{cell_cmp}
use Rattle.table_core.specs.declared.cell.Cell.{Cell}
use Rattle.table_core.specs.declared.cell.Cell.TheVariants.{Null, Int, Code}
use Rattle.filter_zones.specs.declared.zone.Zone.{Zone}
use Rattle.filter_zones.specs.Truth.{is_null}
use Rattle.filter_zones.specs.Zone.{lesser, greater, range_of, values_of, zone_of, IsWithin, IsRange, IsZone, Covers}
use Rattle.filter_zones.proofs.Orders.{cell_total, earliest_keeps, earliest_is_least}

-- the order of cells the other way round
abbrev falling : Cell → Cell → Ordering
falling a b = cell_cmp b a

abbrev IsValue : Cell → Type 0
IsValue x = not (is_null x) ≡ true

within_all : (lo hi : Cell) → is_null lo ≡ false → is_null hi ≡ false → (vs : List Cell) → AllByRecursion (λ x. is_le (cell_cmp lo x) ≡ true) vs → AllByRecursion (λ x. is_le (cell_cmp x hi) ≡ true) vs
    → AllByRecursion (λ x. IsWithin x (Some (lo, hi))) vs
within_all lo hi a b [] above below = tt
within_all lo hi a b (v ∷ vs) above below = ((a, b, above.0, below.0), within_all lo hi a b vs above.1 below.1)

-- the least and the greatest of some values stand among them, and each of them lies between
within : (v : Cell) (vs : List Cell) → AllByRecursion IsValue (v ∷ vs) → AllByRecursion (λ x. IsWithin x (range_of (v ∷ vs))) (v ∷ vs)
within v vs all = within_all (fold lesser v vs) (fold greater v vs)
    (not-true (is_null (fold lesser v vs)) (earliest_keeps cell_cmp IsValue v vs all.0 all.1))
    (not-true (is_null (fold greater v vs)) (earliest_keeps falling IsValue v vs all.0 all.1))
    (v ∷ vs) (earliest_is_least cell_total v vs) (earliest_is_least (back_total cell_total) v vs)

range_is : (vs : List Cell) → AllByRecursion IsValue vs → IsRange vs (range_of vs)
range_is [] all = refl
range_is (v ∷ vs) all =
    let among = recursion_from_All (Contains (v ∷ vs)) (v ∷ vs) (All-contains_itself (v ∷ vs)) in (
      earliest_keeps cell_cmp (Contains (v ∷ vs)) v vs among.0 among.1,
      earliest_keeps falling (Contains (v ∷ vs)) v vs among.0 among.1,
      All-from_recursion (λ x. IsWithin x (range_of (v ∷ vs))) (v ∷ vs) (within v vs all),
    )

values_are : (cells : List Cell) → AllByRecursion IsValue (values_of cells)
values_are cells = recursion_from_All IsValue (values_of cells) (filter_passes (λ x. not (is_null x)) cells)

pub zone_is : (cells : List Cell) → IsZone cells (zone_of cells)
zone_is cells = record { nulls = refl; range = range_is (values_of cells) (values_are cells) }

-- ---- room for each cell

-- what holds of each cell that passes a test
unfiltered : (P : Cell → Type 0) (p : Cell → Bool) (xs : List Cell) → AllByRecursion P (filter p xs) → AllByRecursion (λ x. p x ≡ true → P x) xs
unfiltered P p [] all = tt
unfiltered P p (x ∷ xs) all = by (p x) refl (unfiltered P p xs) all where
  by : (b : Bool) → p x ≡ b → (AllByRecursion P (filter p xs) → AllByRecursion (λ y. p y ≡ true → P y) xs) → AllByRecursion P (if b then x ∷ filter p xs else filter p xs)
      → (p x ≡ true → P x) × AllByRecursion (λ y. p y ≡ true → P y) xs
  by true e rest a = (λ _. a.0, rest a.1)
  by false e rest a = (λ t. absurd (false≢true (sym e ∙ t)), rest a)

all_within : (vs : List Cell) → AllByRecursion IsValue vs → AllByRecursion (λ x. IsWithin x (range_of vs)) vs
all_within [] all = tt
all_within (v ∷ vs) all = within v vs all

one_covered : (z : Zone) (x : Cell) → (is_null x ≡ true → z.has_null ≡ true) → (IsValue x → IsWithin x z.range) → Covers z x
one_covered z Null nulls values = nulls refl
one_covered z (Int n) nulls values = values refl
one_covered z (Code k) nulls values = values refl

pub all_covered : (cells : List Cell) → All (Covers (zone_of cells)) cells
all_covered cells = λ k d low.
    let IsIn : Cell → Type 0 = λ x. IsWithin x (range_of (values_of cells)) in
    let each = unfiltered IsIn (λ x. not (is_null x)) cells (all_within (values_of cells) (values_are cells)) in
    one_covered (zone_of cells) (get_or cells k d) (list_any_at is_null cells k d low) (All-from_recursion (λ x. IsValue x → IsIn x) cells each k d low)
