use Rattle.std.proofs.Common.{◌≡◌, Some, arith, sym, ap, subst}
use Rattle.scan_story.specs.declared.origin.Start.{Start}
use Rattle.scan_story.specs.Setting.{worker_of}
use Rattle.cscan.specs.Scans.{ReadsColumns}
use Rattle.cscan.specs.Scans.{HasColumns}
use Rattle.trial_scans.proofs.Fresh.{may_begin}
use Rattle.trial_scans.proofs.Scans.{on_true}
use Rattle.trial_scans.proofs.single.alone_in.Goals as goal

pub drive-requires-clause-may : goal.drive-requires-clause-may
drive-requires-clause-may g c κs within =
    let fresh = c.in-Some-seated.ensures.seated in
    let fewer = c.in-Some-seated.ensures.fewer in
    let number : c.in-Some-seated.station.number ≡ 0 = omega (arith, fresh.1, fewer, c.in-Ok.ensures.count) in
    let on = on_true c.is_on.result (worker_of c.args.s.now 1 ≡ Some 0) (grind (arith, c.if-not-is_on.false)) c.is_on.ensures in
    may_begin g.S.Origin.origin c.args.s.now 0 1 c.in-Some-seated.station.number c.in-Some-seated.station.pass.seen (ap (λ (o : Start). o.setting.needs) c.requires.origin) on number fresh.2

pub drive-requires-clause-has : goal.drive-requires-clause-has
drive-requires-clause-has g c κs within =
    let has = on_true c.has_columns.result (HasColumns c.args.s.now c.args.shape.now 1) (grind (arith, c.if-not-has_columns.false)) c.has_columns.ensures in
    subst (λ (o : Start). HasColumns o.setting c.args.shape.now 1) (sym c.requires.origin) has

pub drive-requires-clause-columns : goal.drive-requires-clause-columns
drive-requires-clause-columns g c κs within = subst (λ (o : Start). ReadsColumns o.setting 1 c.columns_of-columns.result) (sym c.requires.origin) c.columns_of-columns.ensures
