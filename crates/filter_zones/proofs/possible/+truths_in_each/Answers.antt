use Rattle.std.proofs.Common.{◌≡◌, ◌∙◌, ap, rules}
use Rattle.filter_zones.specs.declared.cond.Cond.{Cond}
use Rattle.filter_zones.specs.Possible.{chunk_at, opposites, possible}
use Rattle.filter_zones.specs.Truth.{greatest, least}
use Rattle.filter_zones.proofs.Joined.{pairs_of}
use Rattle.filter_zones.proofs.possible.+truths_in_each.Goals as goal

pub ranged_in_each-requires-clause-there : goal.ranged_in_each-requires-clause-there
ranged_in_each-requires-clause-there t c = λ k d low. (rw c.in-Compare.is at (c.requires.fits k d low)).0

pub null_tests_in_each-requires-clause-there : goal.null_tests_in_each-requires-clause-there
null_tests_in_each-requires-clause-there t c = λ k d low. rw c.in-IsNull.is at (c.requires.fits k d low)

pub returns-in-And : goal.returns-in-And
returns-in-And t c = λ k low.
    let zones = (chunk_at c.args.chunks.now k).zones in
    let first : c.deref.result.now ≡ c.in-And.a.value = search rules in
    let second : c.deref-in-And.result.now ≡ c.in-And.b.value = search rules in
    rw c.in-And.is (pairs_of least zones first second (c.truths_in_each.ensures k low) (c.truths_in_each-in-And.ensures k low) (c.and.ensures k))

pub returns-in-Or : goal.returns-in-Or
returns-in-Or t c = λ k low.
    let zones = (chunk_at c.args.chunks.now k).zones in
    let first : c.deref-in-Or.result.now ≡ c.in-Or.a.value = search rules in
    let second : c.deref-in-Or-2.result.now ≡ c.in-Or.b.value = search rules in
    rw c.in-Or.is (pairs_of greatest zones first second (c.truths_in_each-in-Or.ensures k low) (c.truths_in_each-in-Or-2.ensures k low) (c.or.ensures k))

pub returns-in-Not : goal.returns-in-Not
returns-in-Not t c = λ k low.
    let zones = (chunk_at c.args.chunks.now k).zones in
    let first : c.deref-in-Not.result.now ≡ c.in-Not.a.value = search rules in
    rw c.in-Not.is (c.opposites.ensures k ∙ ap opposites (c.truths_in_each-in-Not.ensures k low ∙ ap (λ (d : Cond). possible d zones) first))
