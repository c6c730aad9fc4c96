use Rattle.std.proofs.Common.{◌∙◌, ◌∷◌, [], ℕ, List, Option, inl, inr, refl, sym, ap, subst}
use Rattle.std.proofs.lemmas.List.{append-nil}
use Rattle.scan_story.specs.declared.entry.Entry.{Entry}
use Rattle.scan_story.specs.declared.entry.Entry.TheVariants.{Stop}
use Rattle.scan_story.specs.Causes.{cause_of}
use Rattle.scan_story.specs.Views.{is_ended, is_registered, is_stopped, past}
use Rattle.story_laws.proofs.Active.{active_of}
use Rattle.abm_policy.specs.Turns.{MayTurn}
use Rattle.abm_policy.proofs.Meanwhile.{turns_stay}
use Rattle.baton.specs.Passes.{PassView}
use Rattle.frame_rows.specs.declared.given.Given.{Given}
use Rattle.cscan.specs.Scans.{IsAtRest, slots_out}
use Rattle.cscan.specs.Stations.{IsSeated}
use Rattle.cscan.proofs.Passing.{waits_again, went_on_since}
use Rattle.cscan.proofs.Scanning.{may_turn, stop_cause, stop_idle, stop_inactive}
use Rattle.cscan.proofs.Stories.{adds_these, went_turn}
use Rattle.cscan.proofs.Turning.{stopped_inactive}
use Rattle.cscan.proofs.scan.CScan.stop.Goals as goal
use Rattle.cscan.proofs.scan.CScan.stop.Goals.{After-cause-earlier, Start}

-- the station as it sat, with nothing out
sat : (g : _) (c : Start g) → IsSeated c.args.self.baton.now c.args.self.pool.now g.S.Origin.origin [] c.args.self.station.now
sat g c = subst (λ (o : Option Given). IsSeated c.args.self.baton.now c.args.self.pool.now g.S.Origin.origin (slots_out o) c.args.self.station.now) c.requires.none c.requires.scan.seated

-- the worker may turn still
may : (g : _) (c : After-cause-earlier g) → MayTurn g.S.Origin.origin.setting (past c.take_desk-desk.result) c.args.self.station.now.number c.args.self.query
may g c =
    let s = g.S.Origin.origin.setting in
    let w : ℕ = c.args.self.station.now.number in
    let p = c.args.self.station.now.pass in
    turns_stay s w c.args.self.query p.seen c.take_desk-desk.result
    (went_on_since c.args.self.baton.now g.S.Origin.origin w p c.take_desk-desk.result c.requires.scan.seated.0 c.take_desk-desk.ensures.legal c.take_desk-desk.ensures.seen c.take_desk-desk.ensures.mine)
    (may_turn s (past p.seen) w c.args.self.query c.args.self.out c.requires.scan.at c.requires.none)

pub give-requires-clause-story : goal.give-requires-clause-story
give-requires-clause-story g c =
    adds_these c.args.self.station.now.pass c.take_desk-desk.new.pass c.args.self.station.now.number c.take_desk-desk.result c.take_desk-desk.result [] c.take_desk-desk.ensures.pass (sym (append-nil c.take_desk-desk.result)) c.requires.scan.seated.0.1 tt

pub stop-requires-clause-may : goal.stop-requires-clause-may
stop-requires-clause-may g c κs within =
    let h = past c.take_desk-desk.result in
    let q : ℕ = c.args.self.query in
    let m = may g (goal.at.stop-requires-clause-may g c).After-cause-earlier in
    record { on = record { active = active_of (is_registered h q) (is_stopped h q) (is_ended h q) m.runs.registered (sym c.in_default.ensures.exactly) m.runs.not_ended; on = m.runs.on }; idle = m.idle }

pub give-requires-2-clause-story : goal.give-requires-2-clause-story
give-requires-2-clause-story g c =
    adds_these c.args.self.station.now.pass c.take_desk-desk.new.pass c.args.self.station.now.number c.take_desk-desk.result c.stop.new.self (Stop c.args.self.station.now.number c.args.self.query ∷ [])
    c.take_desk-desk.ensures.pass c.stop.ensures.entries c.requires.scan.seated.0.1 (refl, tt)

pub returns-in-Some-clause-over : goal.returns-in-Some-clause-over
returns-in-Some-clause-over g c =
    let s = g.S.Origin.origin.setting in
    let w : ℕ = c.args.self.station.now.number in
    let q : ℕ = c.args.self.query in
    let at = goal.at.returns-in-Some-clause-over g c in
    let sits = sat g at.Start in
    let seen = ap (λ (p : PassView). p.seen) c.give.ensures.pass in
    record {
      seated = (
        waits_again c.args.self.baton.now g.S.Origin.origin w c.args.self.station.now.pass c.take_desk-desk.new.pass c.give.new.pass c.take_desk-desk.result c.take_desk-desk.result sits.0 c.take_desk-desk.ensures.pass c.give.ensures.pass,
        sits.1,
        sits.2,
      );
      rests = subst (λ (l : List Entry). IsAtRest s (past l) w q) (sym seen)
          (record { legal = c.take_desk-desk.ensures.legal; inactive = stopped_inactive (past c.take_desk-desk.result) q (sym c.in-Some.ensures.exactly); idle = (may g at.After-cause-earlier).idle });
    }

pub returns-in-Some-clause-cause : goal.returns-in-Some-clause-cause
returns-in-Some-clause-cause g c =
    let seen = ap (λ (p : PassView). p.seen) c.give.ensures.pass in (
      ap (λ (l : List Entry). cause_of (past l) c.args.self.query) seen ∙ sym c.in-Some.ensures.cause,
      inl (went_turn c.args.self.station.now.pass c.take_desk-desk.new.pass c.give.new.pass c.take_desk-desk.result c.take_desk-desk.result []
          c.take_desk-desk.ensures.pass c.give.ensures.pass c.give.ensures.mine c.take_desk-desk.ensures.seen (sym (append-nil c.take_desk-desk.result))),
    )

pub returns-clause-over : goal.returns-clause-over
returns-clause-over g c =
    let s = g.S.Origin.origin.setting in
    let w : ℕ = c.args.self.station.now.number in
    let q : ℕ = c.args.self.query in
    let at = goal.at.returns-clause-over g c in
    let sits = sat g at.Start in
    let old = c.take_desk-desk.result in
    let new = c.stop.new.self in
    let seen = ap (λ (p : PassView). p.seen) c.give-2.ensures.pass in
    record {
      seated = (
        waits_again c.args.self.baton.now g.S.Origin.origin w c.args.self.station.now.pass c.take_desk-desk.new.pass c.give-2.new.pass old new sits.0 c.take_desk-desk.ensures.pass c.give-2.ensures.pass,
        sits.1,
        sits.2,
      );
      rests = subst (λ (l : List Entry). IsAtRest s (past l) w q) (sym seen)
          (record { legal = c.stop.ensures.legal; inactive = stop_inactive old new w q c.stop.ensures.entries; idle = stop_idle s old new w q c.stop.ensures.entries (may g at.After-cause-earlier).idle });
    }

pub returns-clause-cause : goal.returns-clause-cause
returns-clause-cause g c =
    let w : ℕ = c.args.self.station.now.number in
    let q : ℕ = c.args.self.query in
    let seen = ap (λ (p : PassView). p.seen) c.give-2.ensures.pass in
    let made = went_turn c.args.self.station.now.pass c.take_desk-desk.new.pass c.give-2.new.pass c.take_desk-desk.result c.stop.new.self (Stop w q ∷ [])
    c.take_desk-desk.ensures.pass c.give-2.ensures.pass c.give-2.ensures.mine c.take_desk-desk.ensures.seen c.stop.ensures.entries in (
      ap (λ (l : List Entry). cause_of (past l) q) seen ∙ stop_cause c.take_desk-desk.result c.stop.new.self w q c.stop.ensures.entries (sym c.in_default.ensures.cause),
      inr (record { went = made; before = c.take_desk-desk.result; seen = seen ∙ c.stop.ensures.entries }, refl),
    )
