-- The possible truths of a chunk hold the truth of each of its rows.
use Rattle.std.proofs.Common.{◌≡◌, ℕ, ◌<◌, ◌≤◌, Bool, true, false, List, [], length, refl, sym, ap, ◌∙◌, arith, inl, inr}
use Rattle.std.specs.Prelude.{ℤ, ◌+ℤ◌, ◌≤ℤ◌, ◌<ℤ◌, Option, Some, None, ◌&&◌, if◌then◌else◌, nat_lt, is_some, All, IfSome}
use Rattle.std.proofs.lemmas.Bool.{cases_Bool, false≢true, ltb-true, ltb-false, lt-ltb, and_parts, and_from, or_right}
use Rattle.std.proofs.lemmas.Int.{ints}
use Rattle.std.specs.declared.cmp.Ordering.{Ordering}
use Rattle.std.specs.declared.cmp.Ordering.TheVariants.{Less, Equal, Greater}
use Rattle.std.specs.Ordering.{is_le, int_cmp, nat_cmp}
use Rattle.std.proofs.lemmas.Cmp.{ranked, int_ranked}
use Rattle.table_core.specs.Cell.{cell_cmp}
use Rattle.table_sets.specs.Sets.{has as has_member}
use Rattle.table_core.specs.declared.cell.Cell.{Cell}
use Rattle.table_core.specs.declared.cell.Cell.TheVariants.{Null, Int, Code}
use Rattle.table_core.specs.declared.op.Op.{Op}
use Rattle.table_core.specs.declared.op.Op.TheVariants as op
use Rattle.filter_zones.specs.declared.cond.Bound.{Bound}
use Rattle.filter_zones.specs.declared.cond.Bound.TheVariants as bound
use Rattle.filter_zones.specs.declared.cond.Cond.{Cond}
use Rattle.filter_zones.specs.declared.cond.Cond.TheVariants as cond
use Rattle.filter_zones.specs.declared.truth.Truth.{Truth}
use Rattle.filter_zones.specs.declared.truth.Truth.TheVariants as truth
use Rattle.filter_zones.specs.declared.truth_set.TruthSet.{TruthSet}
use Rattle.filter_zones.specs.declared.zone.Zone.{Zone}
use Rattle.filter_zones.specs.declared.zone.ChunkZones.{ChunkZones}
use Rattle.filter_zones.specs.Truth.{order_of, is_met, two_valued, comparison, null_test, is_null, least, greatest, opposite, cell_at, truth_of, Fits, FitsRow}
use Rattle.filter_zones.specs.Zone.{zone_at, IsWithin, Covers, CoversRow}
use Rattle.filter_zones.specs.Possible.{may_hold, may_fail, ranged, null_tests, has, is_same, some_truth, is_pair, pairs, opposites, possible, FitsRange, FitsZones, HasNoTrueRow, NoneTrueOutside, is_needed, chunk_at}

-- Less is at most Equal, and Equal at most Greater
abbrev at_most : Ordering → Ordering → Bool
at_most Less p = true
at_most Equal Less = false
at_most Equal p = true
at_most Greater Greater = true
at_most Greater p = false

-- ---- a comparison, by how the least cell, the cell and the greatest stand to the value

abbrev pub each_order : (Ordering → Bool) → Bool
each_order f = f Less && (f Equal && f Greater)

pub order_in : (f : Ordering → Bool) (o : Ordering) → each_order f ≡ true → f o ≡ true
order_in f Less e = (and_parts (f Less) (f Equal && f Greater) e).0
order_in f Equal e = (and_parts (f Equal) (f Greater) (and_parts (f Less) (f Equal && f Greater) e).1).0
order_in f Greater e = (and_parts (f Equal) (f Greater) (and_parts (f Less) (f Equal && f Greater) e).1).1

-- whether the set has the truth of a cell that stands as s, where s lies between lo and hi
abbrev has_it : Op → Bool → Ordering → Ordering → Ordering → Bool
has_it o null lo s hi = if at_most lo s && at_most s hi then has (record { can_false = may_fail o lo hi; can_unknown = null; can_true = may_hold o lo hi }) (two_valued (is_met o s)) else true

has_each : (o : Op) (null : Bool) → each_order (λ lo. each_order (λ s. each_order (λ hi. has_it o null lo s hi))) ≡ true
has_each op.Eq null = refl
has_each op.Ne null = refl
has_each op.Lt null = refl
has_each op.Le null = refl
has_each op.Gt null = refl
has_each op.Ge null = refl

between : (o : Op) (null : Bool) (lo s hi : Ordering) → at_most lo s ≡ true → at_most s hi ≡ true
    → has (record { can_false = may_fail o lo hi; can_unknown = null; can_true = may_hold o lo hi }) (two_valued (is_met o s)) ≡ true
between o null lo s hi low high =
    let all = order_in (λ m. each_order (λ t. each_order (λ h. has_it o null m t h))) lo (has_each o null) in
    let here = order_in (λ h. has_it o null lo s h) hi (order_in (λ t. each_order (λ h. has_it o null lo t h)) s all) in
    sym (ap (λ b. if b then has (record { can_false = may_fail o lo hi; can_unknown = null; can_true = may_hold o lo hi }) (two_valued (is_met o s)) else true) (and_from (at_most lo s) (at_most s hi) low high)) ∙ here

-- ---- how a cell stands to a value rises with the cell

int_le : (x y : ℤ) → is_le (int_cmp x y) ≡ true → x ≤ℤ y
int_le x y g = by (int_cmp x y) refl where
  by : (o : Ordering) → int_cmp x y ≡ o → x ≤ℤ y
  by Less e = (let below : x <ℤ y = int_ranked x y Less (sym e) in omega (arith, ints))
  by Equal e = (let same : x ≡ y = int_ranked x y Equal (sym e) in omega (arith, ints))
  by Greater e = absurd (false≢true (sym (ap is_le e) ∙ g))

nat_le_from : (x y : ℕ) → is_le (nat_cmp x y) ≡ true → x ≤ y
nat_le_from x y g = by (nat_cmp x y) refl where
  by : (o : Ordering) → nat_cmp x y ≡ o → x ≤ y
  by Less e = (let below : x < y = ranked x y Less (sym e) in omega arith)
  by Equal e = (let same : x ≡ y = ranked x y Equal (sym e) in omega arith)
  by Greater e = absurd (false≢true (sym (ap is_le e) ∙ g))

int_rises : (m n h : ℤ) → m ≤ℤ n → at_most (int_cmp (m +ℤ m) h) (int_cmp (n +ℤ n) h) ≡ true
int_rises m n h low = by (int_cmp (m +ℤ m) h) (int_cmp (n +ℤ n) h) refl refl where
  by : (o p : Ordering) → int_cmp (m +ℤ m) h ≡ o → int_cmp (n +ℤ n) h ≡ p → at_most o p ≡ true
  by Less p e f = refl
  by Equal Less e f = absurd (omega (arith, ints, int_ranked (m +ℤ m) h Equal (sym e), int_ranked (n +ℤ n) h Less (sym f)))
  by Equal Equal e f = refl
  by Equal Greater e f = refl
  by Greater Less e f = absurd (omega (arith, ints, int_ranked (m +ℤ m) h Greater (sym e), int_ranked (n +ℤ n) h Less (sym f)))
  by Greater Equal e f = absurd (omega (arith, ints, int_ranked (m +ℤ m) h Greater (sym e), int_ranked (n +ℤ n) h Equal (sym f)))
  by Greater Greater e f = refl

code_rises : (m n j : ℕ) → m ≤ n → at_most (nat_cmp m j) (nat_cmp n j) ≡ true
code_rises m n j low = by (nat_cmp m j) (nat_cmp n j) refl refl where
  by : (o p : Ordering) → nat_cmp m j ≡ o → nat_cmp n j ≡ p → at_most o p ≡ true
  by Less p e f = refl
  by Equal Less e f = (let a : m ≡ j = ranked m j Equal (sym e) in let b : n < j = ranked n j Less (sym f) in absurd (omega arith))
  by Equal Equal e f = refl
  by Equal Greater e f = refl
  by Greater Less e f = (let a : j < m = ranked m j Greater (sym e) in let b : n < j = ranked n j Less (sym f) in absurd (omega arith))
  by Greater Equal e f = (let a : j < m = ranked m j Greater (sym e) in let b : n ≡ j = ranked n j Equal (sym f) in absurd (omega arith))
  by Greater Greater e f = refl

gap_rises : (m n p : ℕ) → m ≤ n → at_most (if nat_lt m p then Less else Greater) (if nat_lt n p then Less else Greater) ≡ true
gap_rises m n p low = elim (cases_Bool (nat_lt m p)) [
  | inl before ↦ rw before refl
  | inr after ↦ elim (cases_Bool (nat_lt n p)) [
    | inl below ↦ absurd (omega (arith, ltb-false m p after, ltb-true n p below))
    | inr above ↦ rw (after, above) refl
  ]
]

order_rises : (a b : Cell) (v : Bound) → is_null a ≡ false → is_null b ≡ false → Fits a v → Fits b v → is_le (cell_cmp a b) ≡ true → at_most (order_of a v) (order_of b v) ≡ true
order_rises Null b v x y f g l = absurd (false≢true (sym x))
order_rises (Int m) Null v x y f g l = absurd (false≢true (sym y))
order_rises (Code m) Null v x y f g l = absurd (false≢true (sym y))
order_rises (Int m) (Int n) (bound.Number h) x y f g l = int_rises m n h (int_le m n l)
order_rises (Int m) (Int n) (bound.Code j) x y f g l = absurd f
order_rises (Int m) (Int n) (bound.Gap p) x y f g l = absurd f
order_rises (Int m) (Code n) (bound.Number h) x y f g l = absurd g
order_rises (Int m) (Code n) (bound.Code j) x y f g l = absurd f
order_rises (Int m) (Code n) (bound.Gap p) x y f g l = absurd f
order_rises (Code m) (Int n) (bound.Number h) x y f g l = absurd f
order_rises (Code m) (Int n) (bound.Code j) x y f g l = absurd g
order_rises (Code m) (Int n) (bound.Gap p) x y f g l = absurd g
order_rises (Code m) (Code n) (bound.Number h) x y f g l = absurd f
order_rises (Code m) (Code n) (bound.Code j) x y f g l = code_rises m n j (nat_le_from m n l)
order_rises (Code m) (Code n) (bound.Gap p) x y f g l = gap_rises m n p (nat_le_from m n l)

-- ---- the leaves of a condition

ranged-unknown : (o : Op) (v : Bound) (null : Bool) (r : Option (Cell × Cell)) → null ≡ true → has (ranged o v null r) truth.Unknown ≡ true
ranged-unknown o v null None e = e
ranged-unknown o v null (Some p) e = e

ranged-value : (o : Op) (v : Bound) (null : Bool) (r : Option (Cell × Cell)) (x : Cell) → is_null x ≡ false → Fits x v → FitsRange r v → IsWithin x r → has (ranged o v null r) (two_valued (is_met o (order_of x v))) ≡ true
ranged-value o v null None x e f g w = absurd w
ranged-value o v null (Some p) x e f g w = between o null (order_of p.0 v) (order_of x v) (order_of p.1 v) (order_rises p.0 x v w.0 e g.0 f w.2) (order_rises x p.1 v e w.1 f g.1 w.3)

comparison_in : (o : Op) (v : Bound) (z : Zone) (x : Cell) → Fits x v → FitsRange z.range v → Covers z x → has (ranged o v z.has_null z.range) (comparison o v x) ≡ true
comparison_in o v z Null f g c = ranged-unknown o v z.has_null z.range c
comparison_in o v z (Int n) f g c = ranged-value o v z.has_null z.range (Int n) refl f g c
comparison_in o v z (Code k) f g c = ranged-value o v z.has_null z.range (Code k) refl f g c

within_some : (x : Cell) (r : Option (Cell × Cell)) → IsWithin x r → is_some r ≡ true
within_some x None w = absurd w
within_some x (Some p) w = refl

null_test_in : (negated : Bool) (z : Zone) (x : Cell) → Covers z x → has (null_tests negated z) (null_test negated x) ≡ true
null_test_in false z Null c = c
null_test_in true z Null c = c
null_test_in false z (Int n) c = within_some (Int n) z.range c
null_test_in true z (Int n) c = within_some (Int n) z.range c
null_test_in false z (Code n) c = within_some (Code n) z.range c
null_test_in true z (Code n) c = within_some (Code n) z.range c

-- ---- pairs of truths, and opposites

some_is : (g : Truth → Bool) (x : Truth) → g x ≡ true → some_truth g ≡ true
some_is g truth.False e = rw e refl
some_is g truth.Unknown e = rw e (or_right (g truth.False) true refl)
some_is g truth.True e = rw (e, or_right (g truth.Unknown) true refl) (or_right (g truth.False) true refl)

same_itself : (t : Truth) → is_same t t ≡ true
same_itself truth.False = refl
same_itself truth.Unknown = refl
same_itself truth.True = refl

has-pairs : (f : Truth → Truth → Truth) (a b : TruthSet) (t : Truth) → has (pairs f a b) t ≡ is_pair f a b t
has-pairs f a b truth.False = refl
has-pairs f a b truth.Unknown = refl
has-pairs f a b truth.True = refl

pair_in : (f : Truth → Truth → Truth) (a b : TruthSet) (x y : Truth) → has a x ≡ true → has b y ≡ true → has (pairs f a b) (f x y) ≡ true
pair_in f a b x y e d =
    let Row : Truth → Bool = λ p. some_truth (λ q. has a p && (has b q && is_same (f p q) (f x y))) in
    let cell : (has a x && (has b y && is_same (f x y) (f x y))) ≡ true = rw (e, d) (same_itself (f x y)) in
    has-pairs f a b (f x y) ∙ some_is Row x (some_is (λ q. has a x && (has b q && is_same (f x q) (f x y))) y cell)

opposite_in : (s : TruthSet) (t : Truth) → has s t ≡ true → has (opposites s) (opposite t) ≡ true
opposite_in s truth.False e = e
opposite_in s truth.Unknown e = e
opposite_in s truth.True e = e

-- the truth of a row that the zones have room for is possible
pub truth_in : (c : Cond) (zones : List Zone) (row : List Cell) → FitsRow c row → FitsZones c zones → CoversRow zones row → has (possible c zones) (truth_of c row) ≡ true
truth_in (cond.Compare x o v) zones row f g c = comparison_in o v (zone_at zones x) (cell_at row x) f.1 g.1 (c x f.0)
truth_in (cond.IsNull x negated) zones row f g c = null_test_in negated (zone_at zones x) (cell_at row x) (c x f)
truth_in (cond.And' p a q b) zones row f g c = pair_in least (possible a zones) (possible b zones) (truth_of a row) (truth_of b row) (truth_in a zones row f.0 g.0 c) (truth_in b zones row f.1 g.1 c)
truth_in (cond.Or' p a q b) zones row f g c = pair_in greatest (possible a zones) (possible b zones) (truth_of a row) (truth_of b row) (truth_in a zones row f.0 g.0 c) (truth_in b zones row f.1 g.1 c)
truth_in (cond.Not' p a) zones row f g c = opposite_in (possible a zones) (truth_of a row) (truth_in a zones row f g c)

-- where True isn't possible, no row is true
pub none_true : (c : Cond) (zones : List Zone) → FitsZones c zones → (possible c zones).can_true ≡ false → HasNoTrueRow c zones
none_true c zones fits never row f covers met = false≢true (sym never ∙ sym (ap (has (possible c zones)) met) ∙ truth_in c zones row f fits covers)

-- the same of each chunk outside a set that has exactly the needed ones
pub none_outside : (o : Option Cond) (chunks : List ChunkZones) (members : List ℕ) → IfSome o (λ c. All (λ chunk. FitsZones c chunk.zones) chunks)
    → ((k : ℕ) → has_member members k ≡ (nat_lt k (length chunks) && is_needed o (chunk_at chunks k))) → IfSome o (λ c. NoneTrueOutside c chunks members)
none_outside None chunks members fits each = tt
none_outside (Some c) chunks members fits each = λ k low out.
    let chunk = chunk_at chunks k in
    let never : (possible c chunk.zones).can_true ≡ false = sym (ap (λ b. b && (possible c chunk.zones).can_true) (lt-ltb k (length chunks) low)) ∙ sym (each k) ∙ out in
    none_true c chunk.zones (fits k (record { zones = [] }) low) never
