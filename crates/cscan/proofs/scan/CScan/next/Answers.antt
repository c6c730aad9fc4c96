use Rattle.std.proofs.Common.{ℕ, Option, Some, refl, sym, ap, subst}
use Rattle.scan_story.specs.Views.{past}
use Rattle.frame_rows.specs.declared.given.Given.{Given}
use Rattle.cscan.specs.Scans.{IsAt, IsAtRest, IsGiven, slots_out}
use Rattle.cscan.specs.Stations.{IsSeated}
use Rattle.cscan.proofs.Scanning.{may_turn}
use Rattle.cscan.proofs.scan.CScan.next.Goals as goal

pub turn_on-requires-clause-seated : goal.turn_on-requires-clause-seated
turn_on-requires-clause-seated g c κs within =
    subst (λ (o : Option Given). IsSeated c.args.self.now.baton.now c.args.self.now.pool.now g.S.Origin.origin (slots_out o) c.args.self.now.station.now) c.requires.none c.requires.scan.seated

pub turn_on-requires-clause-may : goal.turn_on-requires-clause-may
turn_on-requires-clause-may g c κs within =
    let station = c.args.self.now.station.now in
    may_turn g.S.Origin.origin.setting (past station.pass.seen) station.number c.args.self.now.query c.args.self.now.out c.requires.scan.at c.requires.none

pub returns-in-Took-clause-answer : goal.returns-in-Took-clause-answer
returns-in-Took-clause-answer g c =
    let s = g.S.Origin.origin.setting in
    let q : ℕ = c.args.self.now.query in
    let new = c.turn_on.new.station in
    let h = past new.pass.seen in
    let r = c.in-Took.ensures.round in
    let same = sym c.copy.ensures in (
      ap (λ (x : Given). Some x) c.copy.ensures,
      record {
        seated = subst (λ (x : Given). IsSeated c.args.self.now.baton.now c.args.self.now.pool.now g.S.Origin.origin x.slots new) same c.in-Took.ensures.seated;
        fits = c.requires.scan.fits;
        columns = c.requires.scan.columns;
        legal = r.1;
        at = subst (λ (w : ℕ). IsAt s h w q (Some c.copy.result)) (sym c.turn_on.ensures.number) (subst (λ (x : Given). IsAt s h c.args.self.now.station.now.number q (Some x)) same r.2);
        given = subst (λ (x : Given). IsGiven s c.args.self.now.shape.now h q x) same r.3;
      },
      r.0,
      refl,
    )

pub returns-in-Done-clause-answer : goal.returns-in-Done-clause-answer
returns-in-Done-clause-answer g c =
    let r = c.in-Done.ensures.round in
    let h = past c.turn_on.new.station.pass.seen in
    let rests = subst (λ (w : ℕ). IsAtRest g.S.Origin.origin.setting h w c.args.self.now.query) (sym c.turn_on.ensures.number) r.1 in
    (c.requires.none, record { seated = c.in-Done.ensures.seated; rests = rests }, r.0)

pub returns-in-Stopped-clause-answer : goal.returns-in-Stopped-clause-answer
returns-in-Stopped-clause-answer g c =
    let r = c.in-Stopped.ensures.round in
    let h = past c.turn_on.new.station.pass.seen in
    let rests = subst (λ (w : ℕ). IsAtRest g.S.Origin.origin.setting h w c.args.self.now.query) (sym c.turn_on.ensures.number) r.1 in
    (c.requires.none, record { seated = c.in-Stopped.ensures.seated; rests = rests }, r.0)
