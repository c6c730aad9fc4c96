use Rattle.std.proofs.Common.{◌≡◌, ◌≤◌, ◌+◌, ◌∙◌, [], ℕ, List, length, arith, sym, ap, subst}
use Rattle.coop_outside.specs.Pieces.{Stored}
use Rattle.scan_story.specs.declared.entry.Entry.{Entry}
use Rattle.scan_story.specs.Causes.{last_fault}
use Rattle.scan_story.specs.Legal.{Legal}
use Rattle.scan_story.specs.Makers.{Adds, AllBy}
use Rattle.scan_story.specs.Views.{past}
use Rattle.abm_policy.specs.Depots.{ComesBack, depot_view}
use Rattle.abm_policy.specs.Loads.{load_of}
use Rattle.abm_policy.specs.Turns.{MayTurn, RunsOn}
use Rattle.abm_policy.specs.Waiting.{IsLoadedStill, WentOn}
use Rattle.abm_policy.proofs.Meanwhile.{loads_stay, runs_stay}
use Rattle.baton.specs.Passes.{PassView}
use Rattle.cscan.specs.declared.filling.Failure.{Failure}
use Rattle.frame_rows.specs.Tables.{TellAlike}
use Rattle.cscan.proofs.Passing.{waits_again, went_on_since}
use Rattle.cscan.proofs.Stories.{adds_these, went_turn}
use Rattle.cscan.proofs.Tickets.{if_err, may_report, on_ok, ticket_there}
use Rattle.cscan.proofs.loading.load.Goals as goal
use Rattle.cscan.proofs.loading.load.Goals.{After-take_desk-desk, After-settle}

-- the story went on meanwhile, and the load is underway still
went : (g : _) (c : After-take_desk-desk g) → WentOn g.S.Origin.origin.setting c.args.station.now.number c.args.station.now.pass.seen c.take_desk-desk.result
went g c =
    went_on_since c.args.baton.now g.S.Origin.origin c.args.station.now.number c.args.station.now.pass c.take_desk-desk.result c.requires.seated.0 c.take_desk-desk.ensures.legal c.take_desk-desk.ensures.seen c.take_desk-desk.ensures.mine

still : (g : _) (c : After-take_desk-desk g) → IsLoadedStill g.S.Origin.origin.setting g.S.Origin.origin.faults (load_of c.args.loading.0 []) (past c.args.station.now.pass.seen) (past c.take_desk-desk.result)
still g c = loads_stay g.S.Origin.origin.setting c.args.station.now.number g.S.Origin.origin.faults (load_of c.args.loading.0 []) c.args.station.now.pass.seen c.take_desk-desk.result (went g c) c.requires.load c.requires.worker

-- the depot comes back after so many reads
back : (g : _) (c : After-take_desk-desk g) (n : ℕ) → g.D.Depot.gets c.read_all-read.new.depot ≡ g.D.Depot.gets c.args.loading.1 + n
    → ComesBack g.S.Origin.origin (past c.take_desk-desk.result) n (depot_view (g.D.Depot.held c.read_all-read.new.depot) (g.D.Depot.gets c.read_all-read.new.depot) (g.D.Depot.faults c.read_all-read.new.depot))
back g c n e =
    let s = still g c in
    let d = c.requires.depot in
    let gets = d.agrees.gets in
    record {
      held = c.read_all-read.ensures.held ∙ d.agrees.held;
      gets = omega (arith, e, gets, s.reads);
      faults = omega (arith, s.last_fault, d.faults, c.read_all-read.ensures.later);
    }

pub read_all-read-requires-clause-frames : goal.read_all-read-requires-clause-frames
read_all-read-requires-clause-frames g c κs within =
    ticket_there g.S.Origin.origin g.C.Content.pieces c.args.shape.now c.args.pool.now (past c.args.station.now.pass.seen) c.args.loading.0 c.requires.start c.requires.fits c.requires.legal c.requires.load

pub read_all-read-requires-clause-alike : goal.read_all-read-requires-clause-alike
read_all-read-requires-clause-alike g c κs within = subst (λ (h : Stored). TellAlike h g.C.Content.pieces c.args.shape.now) (sym c.requires.depot.agrees.held) c.requires.fits.alike

pub settle-requires-clause-load : goal.settle-requires-clause-load
settle-requires-clause-load g c κs within = (still g (goal.at.settle-requires-clause-load g c).After-take_desk-desk).underway

pub settle-requires-clause-read : goal.settle-requires-clause-read
settle-requires-clause-read g c κs within =
    let n : ℕ = length c.args.loading.0.slots in
    on_ok c.read_all-read.result _ _ (λ e. back g (goal.at.settle-requires-clause-read g c).After-take_desk-desk n e) c.read_all-read.ensures.read

pub settle-requires-clause-failed : goal.settle-requires-clause-failed
settle-requires-clause-failed g c κs within =
    if_err c.read_all-read.result _ _
    (λ (f : Failure) e. (e.0, back g (goal.at.settle-requires-clause-failed g c).After-take_desk-desk (f.done + 1) (let gets = e.1 in omega (arith, gets)))) c.read_all-read.ensures.failed

pub settle-requires-clause-why : goal.settle-requires-clause-why
settle-requires-clause-why g c κs within =
    let s = still g (goal.at.settle-requires-clause-why g c).After-take_desk-desk in
    let d = c.requires.depot in
    let low : last_fault g.S.Origin.origin.faults (past c.take_desk-desk.result) ≤ g.D.Depot.faults c.args.loading.1 = omega (arith, s.last_fault, d.faults) in
    if_err c.read_all-read.result _ _
    (λ (f : Failure) e. may_report g.S.Origin.origin (past c.take_desk-desk.result) (g.D.Depot.held c.args.loading.1) (g.D.Depot.faults c.args.loading.1) (g.D.Depot.faults c.read_all-read.new.depot) f.why d.agrees.held low e)
    c.read_all-read.ensures.why

-- what the worker added
added : (g : _) (c : After-settle g) → Adds c.take_desk-desk.new.pass.number c.take_desk-desk.new.pass.seen c.settle.new.desk
added g c =
    let e = c.settle.ensures.settled in
    adds_these c.args.station.now.pass c.take_desk-desk.new.pass c.args.station.now.number c.take_desk-desk.result c.settle.new.desk e.added c.take_desk-desk.ensures.pass e.is c.requires.seated.0.1
    (subst (λ (n : ℕ). AllBy n e.added) c.requires.worker e.by_worker)

pub give-requires-clause-story : goal.give-requires-clause-story
give-requires-clause-story g c = added g (goal.at.give-requires-clause-story g c).After-settle

pub returns-clause-seated : goal.returns-clause-seated
returns-clause-seated g c =
    let s = c.requires.seated in
    let waits = waits_again c.args.baton.now g.S.Origin.origin c.args.station.now.number c.args.station.now.pass c.take_desk-desk.new.pass c.give.new.pass c.take_desk-desk.result c.settle.new.desk s.0 c.take_desk-desk.ensures.pass c.give.ensures.pass in
    let b = c.read_all-read.ensures.berth in
    (waits, ((ap (λ x. x.pool) b ∙ s.1.0.0, ap (λ x. x.shape) b ∙ s.1.0.1), ap (λ x. x.pins) b ∙ s.1.1, ap (λ x. x.fill) b ∙ s.1.2), s.2)

pub returns-clause-settled : goal.returns-clause-settled
returns-clause-settled g c =
    let s = c.requires.seated in
    let e = c.settle.ensures.settled in
    let b = (goal.at.returns-clause-settled g c).After-take_desk-desk in
    let w : ℕ = c.args.station.now.number in
    let seen = ap (λ (p : PassView). p.seen) c.give.ensures.pass in
    record {
      added = e.added;
      of_loads = e.of_loads;
      went = went_turn c.args.station.now.pass c.take_desk-desk.new.pass c.give.new.pass c.take_desk-desk.result c.settle.new.desk e.added c.take_desk-desk.ensures.pass c.give.ensures.pass c.give.ensures.mine (went g b).begins e.is;
      legal = subst (λ (l : List Entry). Legal g.S.Origin.origin.setting (past l)) (sym seen) c.settle.ensures.legal;
      may = λ q runs. subst (λ (l : List Entry). MayTurn g.S.Origin.origin.setting (past l) w q) (sym seen)
          (subst (λ (n : ℕ). MayTurn g.S.Origin.origin.setting (past c.settle.new.desk) n q) c.requires.worker
          (c.settle.ensures.may q (subst (λ (n : ℕ). RunsOn g.S.Origin.origin.setting (past c.take_desk-desk.result) q n) (sym c.requires.worker)
          (runs_stay g.S.Origin.origin.setting w q c.args.station.now.pass.seen c.take_desk-desk.result (went g b) runs))));
    }
