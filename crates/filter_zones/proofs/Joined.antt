-- The truths of a comparison by how the ends of a zone stand to the value are those of its range.
use Rattle.std.proofs.Common.{◌≡◌, ◌<◌, ◌≤◌, ◌+◌, ◌-◌, ℕ, zero, suc, Bool, true, false, List, refl, ap, ◌∙◌, arith}
use Rattle.std.specs.Prelude.{Option, Some, None}
use Rattle.std.specs.declared.cmp.Ordering.{Ordering}
use Rattle.table_core.specs.declared.cell.Cell.{Cell}
use Rattle.table_core.specs.declared.op.Op.{Op}
use Rattle.table_core.specs.declared.op.Op.TheVariants as op
use Rattle.filter_zones.specs.declared.cond.Bound.{Bound}
use Rattle.filter_zones.specs.declared.cond.Cond.{Cond}
use Rattle.filter_zones.specs.declared.truth.Truth.{Truth}
use Rattle.filter_zones.specs.declared.truth_set.TruthSet.{TruthSet}
use Rattle.filter_zones.specs.declared.zone.Zone.{Zone}
use Rattle.filter_zones.specs.Truth.{order_of}
use Rattle.filter_zones.specs.Possible.{may_hold, may_fail, pairs, possible, ranged}
use Rattle.filter_zones.specs.Ends.{stand, ends_of, truths_of}
use Rattle.filter_zones.proofs.Law.{each_order, order_in}
use Rattle.filter_zones.proofs.Bits.{alike, alike_is}

-- a test of two orders that holds of all nine pairs
of_two : (f : Ordering → Ordering → Bool) (lo hi : Ordering) → each_order (λ a. each_order (λ b. f a b)) ≡ true → f lo hi ≡ true
of_two f lo hi all = order_in (f lo) hi (order_in (λ a. each_order (λ b. f a b)) lo all)

abbrev holds_alike : Op → Ordering → Ordering → Bool
holds_alike o lo hi = alike (truths_of o (stand false lo hi)).can_true (may_hold o lo hi)

abbrev fails_alike : Op → Ordering → Ordering → Bool
fails_alike o lo hi = alike (truths_of o (stand false lo hi)).can_false (may_fail o lo hi)

holds_each : (o : Op) → each_order (λ a. each_order (λ b. holds_alike o a b)) ≡ true
holds_each op.Eq = refl
holds_each op.Ne = refl
holds_each op.Lt = refl
holds_each op.Le = refl
holds_each op.Gt = refl
holds_each op.Ge = refl

fails_each : (o : Op) → each_order (λ a. each_order (λ b. fails_alike o a b)) ≡ true
fails_each op.Eq = refl
fails_each op.Ne = refl
fails_each op.Lt = refl
fails_each op.Le = refl
fails_each op.Gt = refl
fails_each op.Ge = refl

holds : (o : Op) (lo hi : Ordering) → (truths_of o (stand false lo hi)).can_true ≡ may_hold o lo hi
holds o lo hi = alike_is _ _ (of_two (holds_alike o) lo hi (holds_each o))

fails : (o : Op) (lo hi : Ordering) → (truths_of o (stand false lo hi)).can_false ≡ may_fail o lo hi
fails o lo hi = alike_is _ _ (of_two (fails_alike o) lo hi (fails_each o))

pub ends_truths : (o : Op) (v : Bound) (null : Bool) (r : Option (Cell × Cell)) → truths_of o (ends_of v null r) ≡ ranged o v null r
ends_truths op.Eq v null None = refl
ends_truths op.Ne v null None = refl
ends_truths op.Lt v null None = refl
ends_truths op.Le v null None = refl
ends_truths op.Gt v null None = refl
ends_truths op.Ge v null None = refl
ends_truths op.Eq v null (Some p) = λ i. record { can_false = fails op.Eq (order_of p.0 v) (order_of p.1 v) i; can_unknown = null; can_true = holds op.Eq (order_of p.0 v) (order_of p.1 v) i }
ends_truths op.Ne v null (Some p) = λ i. record { can_false = fails op.Ne (order_of p.0 v) (order_of p.1 v) i; can_unknown = null; can_true = holds op.Ne (order_of p.0 v) (order_of p.1 v) i }
ends_truths op.Lt v null (Some p) = λ i. record { can_false = fails op.Lt (order_of p.0 v) (order_of p.1 v) i; can_unknown = null; can_true = holds op.Lt (order_of p.0 v) (order_of p.1 v) i }
ends_truths op.Le v null (Some p) = λ i. record { can_false = fails op.Le (order_of p.0 v) (order_of p.1 v) i; can_unknown = null; can_true = holds op.Le (order_of p.0 v) (order_of p.1 v) i }
ends_truths op.Gt v null (Some p) = λ i. record { can_false = fails op.Gt (order_of p.0 v) (order_of p.1 v) i; can_unknown = null; can_true = holds op.Gt (order_of p.0 v) (order_of p.1 v) i }
ends_truths op.Ge v null (Some p) = λ i. record { can_false = fails op.Ge (order_of p.0 v) (order_of p.1 v) i; can_unknown = null; can_true = holds op.Ge (order_of p.0 v) (order_of p.1 v) i }

-- ---- a condition of two

pub pairs_of : (f : Truth → Truth → Truth) (zones : List Zone) {a b c d : Cond} {r s t : TruthSet} → c ≡ a → d ≡ b → s ≡ possible c zones → t ≡ possible d zones → r ≡ pairs f s t
    → r ≡ pairs f (possible a zones) (possible b zones)
pairs_of f zones {a = a} {t = t} is_a is_b first second both =
    both ∙ ap (λ s. pairs f s t) (first ∙ ap (λ (e : Cond). possible e zones) is_a) ∙ ap (pairs f (possible a zones)) (second ∙ ap (λ (e : Cond). possible e zones) is_b)

-- ---- one more, put in before the others

pub one_below : {T : Type 0} (each : ℕ → T) (k n : ℕ) (old new : ℕ → T) → 0 < k → n ≤ 64 → ((j : ℕ) → k + j < n → old j ≡ each (k + j)) → new 0 ≡ each (k - 1) → ((j : ℕ) → j < 63 → new (j + 1) ≡ old j)
    → (j : ℕ) → k - 1 + j < n → new j ≡ each (k - 1 + j)
one_below each k n old new some few was first others zero low = first ∙ ap each (omega arith)
one_below each k n old new some few was first others (suc j) low =
    let up : suc j ≡ j + 1 = omega arith in
    let there : k + j < n = omega (arith, some, low) in
    ap new up ∙ others j (omega (arith, some, few, there)) ∙ was j there ∙ ap each (omega (arith, some))
