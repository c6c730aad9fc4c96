use Rattle.std.proofs.Common.{Option, IfSome, Vec, Global, subst, refl, sym, arith}
use Rattle.chunk_interest.specs.declared.need.Need.{Need}
use Rattle.scan_story.specs.Setting.{IsSetting}
use Rattle.interest_book.specs.Made.{made_for}
use Rattle.interest_book.proofs.Making.{same_setting}
use Rattle.help_book.specs.Fits.{IsFit, AreFit}
use Rattle.help_book.proofs.settings.book_of.Goals as goal

pub returns : goal.returns
returns c =
    let s = c.args.s.now in
    let Fit : Option (Vec Need Global) → Type 0 = λ o. IfSome o (λ v. AreFit s v.items) in
    let are : AreFit s c.in-Some.needs.items = subst Fit c.in-Some.is c.in_ok-needs.ensures in
    c.in_ok-book.ensures s (record { needs = are.same; chunks = refl; workers = refl; frames = refl; groups = refl })

pub new-requires : goal.new-requires
new-requires c =
    let s = c.args.s.now in
    let fit : IsFit s = c.has_numbers.ensures (grind (arith, c.if-not-has_numbers.ensures, c.if-not-has_numbers.false)) in
    let Fit : Option (Vec Need Global) → Type 0 = λ o. IfSome o (λ v. AreFit s v.items) in
    let are : AreFit s c.in-Some.needs.items = subst Fit c.in-Some.is c.in_ok-needs.ensures in
    let ok : IsSetting s = record { distinct = are.distinct; needs = are.needs; chunks = fit.chunks; workers = fit.workers; groups = fit.groups; frames = fit.frames } in
    same_setting s (made_for c.in-Some.needs.items s.chunks s.workers s.frames s.groups) (sym are.same) refl refl refl refl ok
