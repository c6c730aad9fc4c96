use Rattle.std.proofs.Common.{◌∷◌, [], List, None, refl, sym, ap, subst}
use Rattle.scan_story.specs.declared.entry.Entry.{Entry}
use Rattle.scan_story.specs.declared.entry.Entry.TheVariants.{Register}
use Rattle.scan_story.specs.Legal.{Legal}
use Rattle.scan_story.specs.Views.{past}
use Rattle.abm_policy.proofs.Meanwhile.{registers_stay}
use Rattle.baton.specs.Passes.{PassView}
use Rattle.cscan.specs.Scans.{IsAt}
use Rattle.cscan.proofs.Passing.{waits_again, went_on_since}
use Rattle.cscan.proofs.Stories.{adds_these, went_turn}
use Rattle.cscan.proofs.scan.CScan.begin.Goals as goal

pub register-requires-clause-may : goal.register-requires-clause-may
register-requires-clause-may g c κs within =
    let s = g.S.Origin.origin.setting in
    let p = c.args.station.now.pass in
    registers_stay s c.args.station.now.number c.args.query p.seen c.take_desk-desk.result c.take_desk-desk.ensures.start.setting
    (went_on_since c.args.baton.now g.S.Origin.origin c.args.station.now.number p c.take_desk-desk.result c.requires.seated.0 c.take_desk-desk.ensures.legal c.take_desk-desk.ensures.seen c.take_desk-desk.ensures.mine) c.requires.may

pub give-requires-clause-story : goal.give-requires-clause-story
give-requires-clause-story g c =
    adds_these c.args.station.now.pass c.take_desk-desk.new.pass c.args.station.now.number c.take_desk-desk.result c.register.new.self (Register c.args.station.now.number c.args.query ∷ [])
    c.take_desk-desk.ensures.pass c.register.ensures.entries c.requires.seated.0.1 (refl, tt)

pub returns-clause-scan : goal.returns-clause-scan
returns-clause-scan g c =
    let s = g.S.Origin.origin.setting in
    let seen = ap (λ (p : PassView). p.seen) c.give.ensures.pass in
    let may = c.register.ensures.may in
    record {
      seated = (
        waits_again c.args.baton.now g.S.Origin.origin c.args.station.now.number c.args.station.now.pass c.take_desk-desk.new.pass c.give.new.pass c.take_desk-desk.result c.register.new.self c.requires.seated.0 c.take_desk-desk.ensures.pass c.give.ensures.pass,
        c.requires.seated.1,
        c.requires.seated.2,
      );
      fits = c.requires.fits;
      columns = c.requires.columns;
      legal = subst (λ (l : List Entry). Legal s (past l)) (sym seen) c.register.ensures.legal;
      at = subst (λ (l : List Entry). IsAt s (past l) c.args.station.now.number c.args.query None) (sym seen)
          (record { runs = may.runs; holds = may.idle.holds_nothing; loads_nothing = may.idle.loads_nothing });
      given = tt;
    }

pub returns-clause-went : goal.returns-clause-went
returns-clause-went g c =
    went_turn c.args.station.now.pass c.take_desk-desk.new.pass c.give.new.pass c.take_desk-desk.result c.register.new.self (Register c.args.station.now.number c.args.query ∷ [])
    c.take_desk-desk.ensures.pass c.give.ensures.pass c.give.ensures.mine c.take_desk-desk.ensures.seen c.register.ensures.entries
