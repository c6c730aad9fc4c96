use Rattle.std.proofs.Common.{◌≡◌, Some, vec_len, arith, sym, ap, subst}
use Rattle.std.proofs.lemmas.List.Elements.{All-same}
use Rattle.baton.specs.Passes.{IsFree}
use Rattle.scan_story.specs.declared.origin.Start.{Start}
use Rattle.scan_story.specs.Setting.{worker_of}
use Rattle.cscan.specs.Scans.{ReadsColumns}
use Rattle.cscan.specs.Scans.{HasColumns}
use Rattle.trial_scans.proofs.Fresh.{may_begin, new_free}
use Rattle.trial_scans.proofs.Scans.{on_true}
use Rattle.trial_scans.proofs.pair.by_turns_in.Goals as goal

pub unseated-requires-clause-passes : goal.unseated-requires-clause-passes
unseated-requires-clause-passes g c κs within = All-same (IsFree c.in-Ok.made.0) _ _ c.seated-2.ensures.passes (new_free c.in-Ok.made.0 g.S.Origin.origin (vec_len c.seated-2.new.passes))

pub unseated-requires-clause-room : goal.unseated-requires-clause-room
unseated-requires-clause-room g c κs within =
    let one = c.in-Some-seated.ensures in
    let two = c.seated-2.ensures in
    (omega (arith, one.fewer, one.room, one.kept, two.fewer, two.kept), omega (arith, one.some, one.room, one.kept, two.most, two.kept))

pub drive-requires-clause-first : goal.drive-requires-clause-first
drive-requires-clause-first g c κs within =
    let fresh = c.in-Some-seated-2.ensures.seated in
    let number : c.in-Some-seated-2.first.number ≡ 0 = omega (arith, fresh.1, c.in-Some-seated.ensures.fewer, c.in-Some-seated-2.ensures.fewer, c.in-Ok.ensures.count) in
    let on = on_true c.is_on.result (worker_of c.args.s.now 1 ≡ Some 0) (grind (arith, c.if-not-is_on.false)) c.is_on.ensures in
    (fresh.0, may_begin g.S.Origin.origin c.args.s.now 0 1 c.in-Some-seated-2.first.number c.in-Some-seated-2.first.pass.seen (ap (λ (o : Start). o.setting.needs) c.requires.origin) on number fresh.2)

pub drive-requires-clause-second : goal.drive-requires-clause-second
drive-requires-clause-second g c κs within =
    let fresh = c.in-Some-seated.ensures.seated in
    let number : c.in-Some-seated.second.number ≡ 1 = omega (arith, fresh.1, c.in-Some-seated.ensures.fewer, c.in-Ok.ensures.count) in
    let on = on_true c.is_on-2.result (worker_of c.args.s.now 2 ≡ Some 1) (grind (arith, c.if-not-is_on-2.false)) c.is_on-2.ensures in
    (fresh.0, may_begin g.S.Origin.origin c.args.s.now 1 2 c.in-Some-seated.second.number c.in-Some-seated.second.pass.seen (ap (λ (o : Start). o.setting.needs) c.requires.origin) on number fresh.2)

pub drive-requires-clause-has : goal.drive-requires-clause-has
drive-requires-clause-has g c κs within =
    let one = on_true c.has_columns.result (HasColumns c.args.s.now c.args.shape.now 1) (grind (arith, c.if-not-has_columns.false)) c.has_columns.ensures in
    let two = on_true c.has_columns-else-not-is_on-2.result (HasColumns c.args.s.now c.args.shape.now 2) (grind (arith, c.if-not-has_columns-2.false)) c.has_columns-else-not-is_on-2.ensures in
    subst (λ (o : Start). HasColumns o.setting c.args.shape.now 1 × HasColumns o.setting c.args.shape.now 2) (sym c.requires.origin) (one, two)

pub drive-requires-clause-columns : goal.drive-requires-clause-columns
drive-requires-clause-columns g c κs within =
    subst (λ (o : Start). ReadsColumns o.setting 1 c.columns_of.result × ReadsColumns o.setting 2 c.columns_of-2.result) (sym c.requires.origin) (c.columns_of.ensures, c.columns_of-2.ensures)

pub unseated-requires-3-clause-room : goal.unseated-requires-3-clause-room
unseated-requires-3-clause-room g c κs within =
    let one = c.in-Some-seated.ensures in
    let two = c.in-Some-seated-2.ensures in
    let more = c.unseated-2.ensures in
    (omega (arith, one.fewer, one.room, one.kept, two.fewer, two.kept, more.more, more.room), omega (arith, one.some, one.room, one.kept, two.some, two.kept, more.more, more.room))
