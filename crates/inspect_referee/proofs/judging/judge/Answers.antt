use Rattle.std.proofs.Common.{◌<◌, ◌≤◌, get_or, length, refl, arith}
use Rattle.scan_story.specs.declared.entry.Entry.TheVariants.{Register}
use Rattle.scan_story.specs.Views.{past}
use Rattle.inspect_referee.specs.Terms.{setting_of}
use Rattle.inspect_referee.proofs.Holding.{undisturbed}
use Rattle.inspect_referee.proofs.Taking.{all_follow}
use Rattle.inspect_referee.proofs.Judged.{against, refused_at, first_at, never_legal, legal_at_end, whole_at_end}
use Rattle.inspect_referee.proofs.judging.judge.Goals as goal

pub returns-in-Some-clause-ruling : goal.returns-in-Some-clause-ruling
returns-in-Some-clause-ruling c =
    let es = c.args.entries.now in
    let i = c.loop-place.place in
    let k = c.loop-place.invariant in
    let lt : i < length es = omega arith in
    let p = against c.loop-place.referee c.args.choices c.args.terms.now es i (get_or es i (Register 0 0)) c.in-Some.reason k.choices k.terms k.entries k.place k.reading c.in-Some.ensures.some in
    refused_at c.args.choices (setting_of c.args.terms.now) es i c.in-Some.reason lt p.0 p.1

pub returns-in-Some-clause-exactly : goal.returns-in-Some-clause-exactly
returns-in-Some-clause-exactly c =
    let es = c.args.entries.now in
    let i = c.loop-place.place in
    let k = c.loop-place.invariant in
    let lt : i < length es = omega arith in
    let p = against c.loop-place.referee c.args.choices c.args.terms.now es i (get_or es i (Register 0 0)) c.in-Some.reason k.choices k.terms k.entries k.place k.reading c.in-Some.ensures.some in
    (λ f. absurd cc, λ legal. absurd (never_legal c.args.choices (setting_of c.args.terms.now) es i c.in-Some.reason lt p.1 legal))

pub returns-in-Some-clause-first : goal.returns-in-Some-clause-first
returns-in-Some-clause-first c =
    let es = c.args.entries.now in
    let i = c.loop-place.place in
    let k = c.loop-place.invariant in
    let lt : i < length es = omega arith in
    let p = against c.loop-place.referee c.args.choices c.args.terms.now es i (get_or es i (Register 0 0)) c.in-Some.reason k.choices k.terms k.entries k.place k.reading c.in-Some.ensures.some in
    first_at c.args.choices (setting_of c.args.terms.now) es i c.in-Some.reason lt p.0 p.1

pub returns-clause-ruling : goal.returns-clause-ruling
returns-clause-ruling c =
    let t = c.args.terms.now in
    let es = c.args.entries.now in
    let i = c.loop-place.place in
    let r = c.loop-place.referee in
    let n = c.args.choices in
    let k = c.loop-place.invariant in
    let le : length es ≤ i = omega arith in
    (legal_at_end r n t es i k.choices k.terms k.entries k.place k.reading le, whole_at_end c.is_whole.result r n t es i k.choices k.terms k.entries k.place c.is_whole.ensures le, c.count_kinds.ensures)

pub returns-clause-exactly : goal.returns-clause-exactly
returns-clause-exactly c =
    let k = c.loop-place.invariant in
    let le : length c.args.entries.now ≤ c.loop-place.place = omega arith in
    (λ f. legal_at_end c.loop-place.referee c.args.choices c.args.terms.now c.args.entries.now c.loop-place.place k.choices k.terms k.entries k.place k.reading le, λ legal. refl)

pub returns-clause-first : goal.returns-clause-first
returns-clause-first c =
    let k = c.loop-place.invariant in
    let le : length c.args.entries.now ≤ c.loop-place.place = omega arith in
    legal_at_end c.loop-place.referee c.args.choices c.args.terms.now c.args.entries.now c.loop-place.place k.choices k.terms k.entries k.place k.reading le

pub returns-clause-calm : goal.returns-clause-calm
returns-clause-calm c = λ room f.
    let s = setting_of c.args.terms.now in
    let h = past c.args.entries.now in
    let k = c.loop-place.invariant in
    let le : length c.args.entries.now ≤ c.loop-place.place = omega arith in
    undisturbed s h c.requires
    (all_follow c.args.choices s h (legal_at_end c.loop-place.referee c.args.choices c.args.terms.now c.args.entries.now c.loop-place.place k.choices k.terms k.entries k.place k.reading le))
