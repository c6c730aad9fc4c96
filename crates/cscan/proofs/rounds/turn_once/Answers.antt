use Rattle.std.proofs.Common.{◌≡◌, ◌∙◌, ◌++◌, ◌∷◌, [], ℕ, List, Some, length, arith, refl, sym, ap, subst}
use Rattle.std.proofs.lemmas.List.{append-nil}
use Rattle.scan_story.specs.declared.entry.Entry.{Entry}
use Rattle.scan_story.specs.declared.entry.Entry.TheVariants.{Plan, Deliver, End}
use Rattle.scan_story.specs.Causes.{cause_of}
use Rattle.scan_story.specs.Counting.{has}
use Rattle.scan_story.specs.Legal.{Legal}
use Rattle.scan_story.specs.Loads.{underway}
use Rattle.scan_story.specs.Views.{past}
use Rattle.story_laws.specs.Lists.{NoneTwice}
use Rattle.story_laws.specs.Queries.{chunks_delivered}
use Rattle.story_laws.proofs.Grouped.{grouped}
use Rattle.chunk_interest.proofs.Needs.{worker_within}
use Rattle.abm_policy.specs.Depots.{IsHandedOut, depot_view}
use Rattle.abm_policy.specs.Loads.{evicts, fills}
use Rattle.abm_policy.specs.Turns.{MayTurn, RunsOn}
use Rattle.abm_policy.specs.Waiting.{WentOn}
use Rattle.abm_policy.proofs.Meanwhile.{turns_stay}
use Rattle.baton.specs.Passes.{PassView, Went}
use Rattle.baton.proofs.Turns.{went_on}
use Rattle.frame_rows.specs.declared.given.Given.{Given}
use Rattle.cscan.specs.Answers.{AreOfLoads}
use Rattle.frame_rows.specs.Pins.{AreFrames}
use Rattle.cscan.specs.Stations.{Waits}
use Rattle.cscan.specs.Scans.{IsAt, IsAtRest, IsGiven}
use Rattle.cscan.proofs.Passing.{waits_again, went_on_since}
use Rattle.cscan.proofs.Rounding.{delivered_chunk, delivered_nothing}
use Rattle.cscan.proofs.Stories.{adds_these, evicts_loads, fills_loads, loads_append, ready_fresh, went_turn}
use Rattle.cscan.proofs.Turning.{ended_idle, ended_inactive, held_after, load_after, ready_below, row_finished, row_stopped, stand_apart, stopped_inactive, turn_added}
use Rattle.cscan.proofs.rounds.turn_once.Goals as goal
use Rattle.cscan.proofs.rounds.turn_once.Goals.{After-take_desk-desk, After-give-2}

-- the story went on meanwhile
went : (g : _) (c : After-take_desk-desk g) → WentOn g.S.Origin.origin.setting c.args.station.now.number c.args.station.now.pass.seen c.take_desk-desk.result
went g c =
    went_on_since c.args.baton.now g.S.Origin.origin c.args.station.now.number c.args.station.now.pass c.take_desk-desk.result c.requires.seated.0 c.take_desk-desk.ensures.legal c.take_desk-desk.ensures.seen c.take_desk-desk.ensures.mine

may : (g : _) (c : After-take_desk-desk g) → MayTurn g.S.Origin.origin.setting (past c.take_desk-desk.result) c.args.station.now.number c.args.query
may g c = turns_stay g.S.Origin.origin.setting c.args.station.now.number c.args.query c.args.station.now.pass.seen c.take_desk-desk.result (went g c) c.requires.may

-- the pass added these entries in the turn
turned : (g : _) (c : After-give-2 g) (new : List Entry) → c.turn-turn.new.self ≡ c.take_desk-desk.result ++ new → Went c.args.station.now.pass c.give-2.new.pass new
turned g c new is =
    went_turn c.args.station.now.pass c.take_desk-desk.new.pass c.give-2.new.pass c.take_desk-desk.result c.turn-turn.new.self new c.take_desk-desk.ensures.pass c.give-2.ensures.pass c.give-2.ensures.mine c.take_desk-desk.ensures.seen is

pub lies_down-requires : goal.lies_down-requires
lies_down-requires g c =
    record { query = (worker_within g.S.Origin.origin.setting c.args.query c.args.station.now.number c.take_desk-desk.ensures.start.setting (may g (goal.at.lies_down-requires g c).After-take_desk-desk).runs.on).1 }

pub give-requires-clause-story : goal.give-requires-clause-story
give-requires-clause-story g c =
    adds_these c.args.station.now.pass c.take_desk-desk.new.pass c.args.station.now.number c.take_desk-desk.result c.take_desk-desk.result [] c.take_desk-desk.ensures.pass (sym (append-nil c.take_desk-desk.result)) c.requires.seated.0.1 tt

pub returns-then-lies_down-clause-seated : goal.returns-then-lies_down-clause-seated
returns-then-lies_down-clause-seated g c =
    let old = c.take_desk-desk.result in
    let waits = waits_again c.args.baton.now g.S.Origin.origin c.args.station.now.number c.args.station.now.pass c.take_desk-desk.new.pass c.give.new.pass old old c.requires.seated.0 c.take_desk-desk.ensures.pass c.give.ensures.pass in
    (waits, c.requires.seated.1, c.requires.seated.2)

pub returns-then-lies_down-clause-round : goal.returns-then-lies_down-clause-round
returns-then-lies_down-clause-round g c =
    let s = g.S.Origin.origin.setting in
    let old = c.take_desk-desk.result in
    let at = goal.at.returns-then-lies_down-clause-round g c in
    let seen = ap (λ (p : PassView). p.seen) c.give.ensures.pass in
    record {
      loads = [];
      only_loads = tt;
      went = went_turn c.args.station.now.pass c.take_desk-desk.new.pass c.give.new.pass old old [] c.take_desk-desk.ensures.pass c.give.ensures.pass c.give.ensures.mine c.take_desk-desk.ensures.seen (sym (append-nil old));
      legal = subst (λ (l : List Entry). Legal s (past l)) (sym seen) c.take_desk-desk.ensures.legal;
      may = subst (λ (l : List Entry). MayTurn s (past l) c.args.station.now.number c.args.query) (sym seen) (may g at.After-take_desk-desk);
    }

pub turn-turn-requires-clause-may : goal.turn-turn-requires-clause-may
turn-turn-requires-clause-may g c κs within = may g (goal.at.turn-turn-requires-clause-may g c).After-take_desk-desk

pub give-requires-2-clause-story : goal.give-requires-2-clause-story
give-requires-2-clause-story g c =
    let a = turn_added (λ (d : g.row.D.Denot). depot_view (g.D.Depot.held d) (g.D.Depot.gets d) (g.D.Depot.faults d)) g.S.Origin.origin c.args.station.now.number c.args.query c.take_desk-desk.result c.turn-turn.new.self c.turn-turn.result c.turn-turn.ensures.answer in
    adds_these c.args.station.now.pass c.take_desk-desk.new.pass c.args.station.now.number c.take_desk-desk.result c.turn-turn.new.self a.0 c.take_desk-desk.ensures.pass a.1 c.requires.seated.0.1 a.2

pub pin_all-requires-clause-of : goal.pin_all-requires-clause-of
pin_all-requires-clause-of g c = c.requires.seated.1.0

pub pin_all-requires-clause-none : goal.pin_all-requires-clause-none
pin_all-requires-clause-none g c = c.requires.seated.1.1

pub pin_all-requires-clause-fill : goal.pin_all-requires-clause-fill
pin_all-requires-clause-fill g c = c.requires.seated.1.2

pub pin_all-requires-clause-frames : goal.pin_all-requires-clause-frames
pin_all-requires-clause-frames g c =
    let s = g.S.Origin.origin.setting in
    let a = c.in-Take.ensures.answer in
    let once = subst NoneTwice (sym a.read) ((grouped s c.take_desk-desk.ensures.start.setting).once c.args.query c.in-Take.chunk) in
    subst (λ (n : ℕ). AreFrames n c.in-Take.slots) c.requires.fits.frames (stand_apart s (past c.turn-turn.new.self) c.in-Take.slots a.frames once)

pub rows_of-rows-requires-clause-shape : goal.rows_of-rows-requires-clause-shape
rows_of-rows-requires-clause-shape g c = c.requires.fits.shape

pub rows_of-rows-requires-clause-chunk : goal.rows_of-rows-requires-clause-chunk
rows_of-rows-requires-clause-chunk g c =
    let low = ready_below g.S.Origin.origin.setting (past c.take_desk-desk.result) c.args.query c.in-Take.chunk c.in-Take.ensures.answer.ready in
    omega (arith, low, c.requires.fits.chunks)

-- the pass waits again
waits : (g : _) (c : After-give-2 g) → Waits c.args.baton.now g.S.Origin.origin c.args.station.now.number c.give-2.new.pass
waits g c =
    waits_again c.args.baton.now g.S.Origin.origin c.args.station.now.number c.args.station.now.pass c.take_desk-desk.new.pass c.give-2.new.pass c.take_desk-desk.result c.turn-turn.new.self c.requires.seated.0 c.take_desk-desk.ensures.pass c.give-2.ensures.pass

pub load-requires-clause-seated : goal.load-requires-clause-seated
load-requires-clause-seated g c κs within = (waits g (goal.at.load-requires-clause-seated g c).After-give-2, c.requires.seated.1, c.requires.seated.2)

pub load-requires-clause-fits : goal.load-requires-clause-fits
load-requires-clause-fits g c κs within = c.requires.fits

pub load-requires-clause-start : goal.load-requires-clause-start
load-requires-clause-start g c κs within = c.take_desk-desk.ensures.start

pub load-requires-clause-legal : goal.load-requires-clause-legal
load-requires-clause-legal g c κs within =
    subst (λ (l : List Entry). Legal g.S.Origin.origin.setting (past l)) (sym (ap (λ (p : PassView). p.seen) c.give-2.ensures.pass)) c.turn-turn.ensures.legal

pub load-requires-clause-load : goal.load-requires-clause-load
load-requires-clause-load g c κs within =
    ap (λ (p : PassView). underway g.S.Origin.origin.setting (past p.seen)) c.give-2.ensures.pass ∙ c.in-Load.ensures.answer.load.underway

pub load-requires-clause-depot : goal.load-requires-clause-depot
load-requires-clause-depot g c κs within =
    subst (λ (l : List Entry). IsHandedOut g.S.Origin.origin (past l) (length c.in-Load.ticket.slots) (depot_view (g.D.Depot.held c.in-Load.depot) (g.D.Depot.gets c.in-Load.depot) (g.D.Depot.faults c.in-Load.depot)))
    (sym (ap (λ (p : PassView). p.seen) c.give-2.ensures.pass)) c.in-Load.ensures.answer.depot

pub returns-in-Take-clause-seated : goal.returns-in-Take-clause-seated
returns-in-Take-clause-seated g c =
    let s = c.requires.seated in
    let b = c.pin_all.ensures in
    (waits g (goal.at.returns-in-Take-clause-seated g c).After-give-2, ((ap (λ x. x.pool) b ∙ s.1.0.0, ap (λ x. x.shape) b ∙ s.1.0.1), ap (λ x. x.pins) b, ap (λ x. x.fill) b ∙ s.1.2), s.2)

pub returns-in-NotYet-clause-seated : goal.returns-in-NotYet-clause-seated
returns-in-NotYet-clause-seated g c = (waits g (goal.at.returns-in-NotYet-clause-seated g c).After-give-2, c.requires.seated.1, c.requires.seated.2)

pub returns-in-Finished-clause-seated : goal.returns-in-Finished-clause-seated
returns-in-Finished-clause-seated g c = (waits g (goal.at.returns-in-Finished-clause-seated g c).After-give-2, c.requires.seated.1, c.requires.seated.2)

pub returns-in-Stopped-clause-seated : goal.returns-in-Stopped-clause-seated
returns-in-Stopped-clause-seated g c = (waits g (goal.at.returns-in-Stopped-clause-seated g c).After-give-2, c.requires.seated.1, c.requires.seated.2)

pub returns-in-Take-clause-round : goal.returns-in-Take-clause-round
returns-in-Take-clause-round g c =
    let s = g.S.Origin.origin.setting in
    let w : ℕ = c.args.station.now.number in
    let q : ℕ = c.args.query in
    let chunk : ℕ = c.in-Take.chunk in
    let slots = c.in-Take.slots in
    let old = c.take_desk-desk.result in
    let new = c.turn-turn.new.self in
    let a = c.in-Take.ensures.answer in
    let at = goal.at.returns-in-Take-clause-round g c in
    let seen = ap (λ (p : PassView). p.seen) c.give-2.ensures.pass in
    let out : Given = record { chunk = chunk; rows = c.rows_of-rows.result; slots = slots } in
    let made = turned g at.After-give-2 (Deliver w q chunk ∷ []) a.added in
    let once = subst NoneTwice (sym a.read) ((grouped s c.take_desk-desk.ensures.start.setting).once q chunk) in (
      record {
        loads = [];
        only_loads = tt;
        went = made;
        before = old;
        seen = seen ∙ a.added;
        ready = a.ready;
        fresh = ap (λ (l : List Entry). has (chunks_delivered l q) chunk) (sym ((went g at.After-take_desk-desk).own ∙ c.requires.seated.0.4)) ∙ ready_fresh s w q chunk old a.ready;
        taken = delivered_chunk w q chunk c.args.station.now.pass c.give-2.new.pass [] tt made;
      },
      subst (λ (l : List Entry). Legal s (past l)) (sym seen) c.turn-turn.ensures.legal,
      subst (λ (l : List Entry). IsAt s (past l) w q (Some out)) (sym seen)
          (record { runs = a.runs; holds = held_after old new w q chunk a.added; loads_nothing = load_after s old new w q chunk a.added (may g at.After-take_desk-desk).idle.loads_nothing }),
      subst (λ (l : List Entry). IsGiven s c.args.shape.now (past l) q out) (sym seen)
          (record {
            chunk = (let low = ready_below s (past old) q chunk a.ready in omega (arith, low, c.requires.fits.chunks));
            rows = c.rows_of-rows.ensures;
            read = a.read;
            stand = a.frames;
            frames = stand_apart s (past new) slots a.frames once;
          }),
    )

pub returns-in-Finished-clause-round : goal.returns-in-Finished-clause-round
returns-in-Finished-clause-round g c =
    let s = g.S.Origin.origin.setting in
    let w : ℕ = c.args.station.now.number in
    let q : ℕ = c.args.query in
    let old = c.take_desk-desk.result in
    let new = c.turn-turn.new.self in
    let a = c.in-Finished.ensures.answer in
    let at = goal.at.returns-in-Finished-clause-round g c in
    let seen = ap (λ (p : PassView). p.seen) c.give-2.ensures.pass in
    let made = turned g at.After-give-2 (End w q ∷ []) a in
    let row = row_finished s (past old) q c.in-Finished.ensures.row in (
      record {
        loads = [];
        only_loads = tt;
        went = made;
        before = old;
        seen = seen ∙ a;
        not_stopped = row.0;
        needs_nothing = row.1;
        taken = delivered_nothing q c.args.station.now.pass c.give-2.new.pass [] (End w q ∷ []) tt made refl;
      },
      subst (λ (l : List Entry). IsAtRest s (past l) w q) (sym seen)
          (record { legal = c.turn-turn.ensures.legal; inactive = ended_inactive old new w q a; idle = ended_idle s old new w q a (may g at.After-take_desk-desk).idle }),
    )

pub returns-in-Stopped-clause-round : goal.returns-in-Stopped-clause-round
returns-in-Stopped-clause-round g c =
    let s = g.S.Origin.origin.setting in
    let w : ℕ = c.args.station.now.number in
    let q : ℕ = c.args.query in
    let old = c.take_desk-desk.result in
    let a = c.in-Stopped.ensures.answer in
    let at = goal.at.returns-in-Stopped-clause-round g c in
    let seen = ap (λ (p : PassView). p.seen) c.give-2.ensures.pass in
    let made = turned g at.After-give-2 [] (a.0 ∙ sym (append-nil old)) in
    let stopped = row_stopped s (past old) q c.in-Stopped.ensures.row in (
      record {
        loads = [];
        only_loads = tt;
        went = made;
        first = ap (λ (l : List Entry). cause_of (past l) q) (seen ∙ a.0) ∙ a.1;
        taken = delivered_nothing q c.args.station.now.pass c.give-2.new.pass [] [] tt made refl;
      },
      subst (λ (l : List Entry). IsAtRest s (past l) w q) (sym (seen ∙ a.0))
          (record { legal = c.take_desk-desk.ensures.legal; inactive = stopped_inactive (past old) q stopped; idle = (may g at.After-take_desk-desk).idle }),
    )

pub returns-in-NotYet-clause-round : goal.returns-in-NotYet-clause-round
returns-in-NotYet-clause-round g c =
    let s = g.S.Origin.origin.setting in
    let w : ℕ = c.args.station.now.number in
    let q : ℕ = c.args.query in
    let old = c.take_desk-desk.result in
    let a = c.in-NotYet.ensures.answer in
    let at = goal.at.returns-in-NotYet-clause-round g c in
    let seen = ap (λ (p : PassView). p.seen) c.give-2.ensures.pass ∙ a in
    record {
      loads = [];
      only_loads = tt;
      went = turned g at.After-give-2 [] (a ∙ sym (append-nil old));
      legal = subst (λ (l : List Entry). Legal s (past l)) (sym seen) c.take_desk-desk.ensures.legal;
      may = subst (λ (l : List Entry). MayTurn s (past l) w q) (sym seen) (may g at.After-take_desk-desk);
    }

pub returns-in-Load-clause-seated : goal.returns-in-Load-clause-seated
returns-in-Load-clause-seated g c = c.load.ensures.seated

pub returns-in-Load-clause-number : goal.returns-in-Load-clause-number
returns-in-Load-clause-number g c = c.load.ensures.number

pub returns-in-Load-clause-round : goal.returns-in-Load-clause-round
returns-in-Load-clause-round g c =
    let s = g.S.Origin.origin.setting in
    let w : ℕ = c.args.station.now.number in
    let q : ℕ = c.args.query in
    let t = c.in-Load.ticket in
    let a = c.in-Load.ensures.answer in
    let at = goal.at.returns-in-Load-clause-round g c in
    let seen = ap (λ (p : PassView). p.seen) c.give-2.ensures.pass in
    let begun : List Entry = Plan w t.query t.chunk ∷ evicts w a.load.evicted ++ fills w t.slots in
    let only : AreOfLoads begun = (refl, loads_append (evicts w a.load.evicted) (fills w t.slots) (evicts_loads w a.load.evicted) (fills_loads w t.slots)) in
    let end = c.load.ensures.settled in
    record {
      loads = begun ++ end.added;
      only_loads = loads_append begun end.added only end.of_loads;
      went = went_on c.args.station.now.pass c.give-2.new.pass c.load.new.station.pass begun end.added (turned g at.After-give-2 begun a.load.added) end.went;
      legal = end.legal;
      may = end.may q (subst (λ (l : List Entry). RunsOn s (past l) q w) (sym seen) a.runs);
    }
