use Rattle.std.proofs.Common.{◌≡◌, ◌∙◌, true, false, not, refl, sym}
use Rattle.std.proofs.lemmas.Bool.{OnTrue_from, false≢true, not-true}
use Rattle.filter_zones.specs.declared.truth.Truth.{Truth}
use Rattle.filter_zones.specs.declared.truth.Truth.TheVariants as truth
use Rattle.filter_zones.specs.declared.truth_set.TruthSet.{TruthSet}
use Rattle.filter_zones.specs.Truth.{truth_of}
use Rattle.filter_zones.specs.Possible.{has}
use Rattle.filter_zones.specs.Certain.{IsTrueOfEachRow}
use Rattle.filter_zones.proofs.certain.is_true_of_all.Goals as goal

only_true : (s : TruthSet) (t : Truth) → s.can_false ≡ false → s.can_unknown ≡ false → has s t ≡ true → t ≡ truth.True
only_true s truth.False f u e = absurd (false≢true (sym f ∙ e))
only_true s truth.Unknown f u e = absurd (false≢true (sym u ∙ e))
only_true s truth.True f u e = refl

pub returns-clause-each_row : goal.returns-clause-each_row
returns-clause-each_row c =
    let s = c.may_be-truths.result in
    OnTrue_from (not s.can_unknown) (IsTrueOfEachRow c.args.cond.now c.args.zones.now.zones) (λ so row fits covers.
    only_true s (truth_of c.args.cond.now row) c.if-truths.false (not-true s.can_unknown so) (c.may_be-truths.ensures.each_row row fits covers))
