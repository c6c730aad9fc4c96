use Rattle.std.proofs.Common.{◌≡◌, [], arith, refl, ap}
use Rattle.scan_story.specs.declared.origin.Start.{Start}
use Rattle.trial_scans.proofs.Fresh.{may_begin}
use Rattle.trial_scans.proofs.handing.hand_on_in.Goals as goal

pub register-requires-clause-may : goal.register-requires-clause-may
register-requires-clause-may g c κs within =
    let same = ap (λ (o : Start). o.setting.needs) c.requires in
    let nothing : c.index_mut.result.now.seen ≡ [] = grind (arith, c.index_mut.ensures.value, c.in-Ok.ensures.passes) in
    may_begin g.S.Origin.origin c.args.s.now 1 2 1 c.index_mut.result.now.seen same c.if-not-is_on-2.ensures refl nothing

pub register-requires-2-clause-may : goal.register-requires-2-clause-may
register-requires-2-clause-may g c κs within =
    let same = ap (λ (o : Start). o.setting.needs) c.requires in
    let nothing : c.index_mut-2.result.now.seen ≡ [] = grind (arith, c.index_mut-2.ensures.value, c.in-Ok.ensures.passes) in
    may_begin g.S.Origin.origin c.args.s.now 0 1 0 c.index_mut-2.result.now.seen same c.if-not-is_on.ensures refl nothing
