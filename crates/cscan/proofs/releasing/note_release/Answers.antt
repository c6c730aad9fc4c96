use Rattle.std.proofs.Common.{◌∙◌, ◌∷◌, [], ℕ, List, None, refl, sym, ap, subst}
use Rattle.scan_story.specs.declared.entry.Entry.{Entry}
use Rattle.scan_story.specs.declared.entry.Entry.TheVariants.{Release}
use Rattle.scan_story.specs.Legal.{Legal}
use Rattle.scan_story.specs.Views.{past}
use Rattle.abm_policy.specs.Waiting.{WentOn}
use Rattle.abm_policy.proofs.Meanwhile.{holds_stay, runs_stay}
use Rattle.baton.specs.Passes.{PassView}
use Rattle.cscan.specs.Scans.{IsAt}
use Rattle.cscan.proofs.Passing.{waits_again, went_on_since}
use Rattle.cscan.proofs.Stories.{adds_these, went_turn}
use Rattle.cscan.proofs.releasing.note_release.Goals as goal
use Rattle.cscan.proofs.releasing.note_release.Goals.{After-take_desk-desk}

went : (g : _) (c : After-take_desk-desk g) → WentOn g.S.Origin.origin.setting c.args.station.now.number c.args.station.now.pass.seen c.take_desk-desk.result
went g c =
    went_on_since c.args.baton.now g.S.Origin.origin c.args.station.now.number c.args.station.now.pass c.take_desk-desk.result c.requires.waits c.take_desk-desk.ensures.legal c.take_desk-desk.ensures.seen c.take_desk-desk.ensures.mine

pub release-requires-clause-holds : goal.release-requires-clause-holds
release-requires-clause-holds g c κs within =
    holds_stay g.S.Origin.origin.setting c.args.station.now.number c.args.station.now.pass.seen c.take_desk-desk.result (went g (goal.at.release-requires-clause-holds g c).After-take_desk-desk)
    ∙ c.requires.at.holds

pub give-requires-clause-story : goal.give-requires-clause-story
give-requires-clause-story g c =
    let w : ℕ = c.args.station.now.number in
    adds_these c.args.station.now.pass c.take_desk-desk.new.pass w c.take_desk-desk.result c.release.new.self (Release w c.args.query c.args.given.now.chunk ∷ [])
    c.take_desk-desk.ensures.pass c.release.ensures.entries c.requires.waits.1 (refl, tt)

pub returns-clause-waits : goal.returns-clause-waits
returns-clause-waits g c =
    waits_again c.args.baton.now g.S.Origin.origin c.args.station.now.number c.args.station.now.pass c.take_desk-desk.new.pass c.give.new.pass c.take_desk-desk.result c.release.new.self
    c.requires.waits c.take_desk-desk.ensures.pass c.give.ensures.pass

pub returns-clause-legal : goal.returns-clause-legal
returns-clause-legal g c =
    let seen = ap (λ (p : PassView). p.seen) c.give.ensures.pass in
    subst (λ (l : List Entry). Legal g.S.Origin.origin.setting (past l)) (sym seen) c.release.ensures.legal

pub returns-clause-at : goal.returns-clause-at
returns-clause-at g c =
    let s = g.S.Origin.origin.setting in
    let w : ℕ = c.args.station.now.number in
    let q : ℕ = c.args.query in
    let b = (goal.at.returns-clause-at g c).After-take_desk-desk in
    let seen = ap (λ (p : PassView). p.seen) c.give.ensures.pass in
    let may = c.release.ensures.may (runs_stay s w q c.args.station.now.pass.seen c.take_desk-desk.result (went g b) c.requires.at.runs) in
    subst (λ (l : List Entry). IsAt s (past l) w q None) (sym seen) (record { runs = may.runs; holds = may.idle.holds_nothing; loads_nothing = may.idle.loads_nothing })

pub returns-clause-released : goal.returns-clause-released
returns-clause-released g c =
    let w : ℕ = c.args.station.now.number in
    let seen = ap (λ (p : PassView). p.seen) c.give.ensures.pass in
    record {
      went = went_turn c.args.station.now.pass c.take_desk-desk.new.pass c.give.new.pass c.take_desk-desk.result c.release.new.self (Release w c.args.query c.args.given.now.chunk ∷ [])
          c.take_desk-desk.ensures.pass c.give.ensures.pass c.give.ensures.mine c.take_desk-desk.ensures.seen c.release.ensures.entries;
      before = c.take_desk-desk.result;
      seen = seen ∙ c.release.ensures.entries;
    }
