use Rattle.std.proofs.Common.{take, subst}
use Rattle.std.specs.List.{AllByRecursion}
use Rattle.std.proofs.Common.{◌≢◌}
use Rattle.scan_story.specs.declared.setting.Need.{Need}
use Rattle.setting_text.specs.Rules.{IsGoodNeed, KeepsNeed}
use Rattle.setting_text.proofs.Keeping.{first_at, good_more}
use Rattle.setting_text.proofs.rules.first_broken.Goals as goal

pub returns-in-Some-clause-some : goal.returns-in-Some-clause-some
returns-in-Some-clause-some c =
    let ns = c.args.needs.now in
    first_at c.args.h ns c.loop-place.place c.index-needs-place.result c.in-Some.rule c.loop-place-test.true c.loop-place.invariant
    (subst (λ (m : Need). KeepsNeed c.args.h (take c.loop-place.place ns) m c.in-Some.rule → ⊥) c.index-needs-place.is c.in-Some.ensures.some)

pub loop-place-preserved : goal.loop-place-preserved
loop-place-preserved c =
    let ns = c.args.needs.now in
    good_more c.args.h ns c.loop-place.place c.index-needs-place.result c.loop-place-test.true c.loop-place.invariant
    (subst (IsGoodNeed c.args.h) c.index-needs-place.is c.in_default.ensures.good)
    (subst (λ (k : Need). AllByRecursion (λ (m : Need). m.query ≢ k.query) (take c.loop-place.place ns)) c.index-needs-place.is c.in_default.ensures.once)
