use Rattle.std.proofs.Common.{Option, IfSome, Vec, Global, refl, sym, subst, arith}
use Rattle.chunk_interest.specs.declared.need.Need.{Need}
use Rattle.interest_book.proofs.Making.{same_setting}
use Rattle.scan_story.specs.Setting.{IsSetting, IsStart, HasRoom}
use Rattle.help_book.specs.Fits.{IsFit, AreFit}
use Rattle.trial_scans.specs.Trials.{under}
use Rattle.trial_scans.proofs.Scans.{on_true}
use Rattle.trial_scans.proofs.desks.desk_of.Goals as goal

pub new-requires-clause-start : goal.new-requires-clause-start
new-requires-clause-start g c κs within =
    let s = c.args.s.now in
    let t = under s (g.P.Policy.name c.args.policy) (g.P.Policy.cursor c.args.policy) in
    let fit : IsFit s = c.has_numbers.ensures (grind (arith, c.if-not-has_numbers.ensures, c.if-not-has_numbers.false)) in
    let room : HasRoom s = on_true c.has_room.result (HasRoom s) (grind (arith, c.if-not-has_room.false)) c.has_room.ensures in
    let Fit : Option (Vec Need Global) → Type 0 = λ o. IfSome o (λ v. AreFit s v.items) in
    let are : AreFit s c.in-Some.needs.items = subst Fit c.in-Some.is c.in-Ok.ensures in
    let ok : IsSetting s = record { distinct = are.distinct; needs = are.needs; chunks = fit.chunks; workers = fit.workers; groups = fit.groups; frames = fit.frames } in
    subst IsStart (sym c.requires) (record { setting = same_setting s t refl refl refl refl refl ok; room = room; gets = omega (arith, c.if-depot.false) })
