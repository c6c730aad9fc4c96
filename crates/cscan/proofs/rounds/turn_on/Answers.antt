use Rattle.std.proofs.Common.{◌∙◌, [], ℕ, refl, sym, subst}
use Rattle.scan_story.specs.Views.{past}
use Rattle.abm_policy.specs.Turns.{MayTurn}
use Rattle.baton.proofs.Turns.{went_nowhere}
use Rattle.cscan.specs.declared.rounds.Round.TheVariants.{Took, Again, Done, Stopped}
use Rattle.cscan.specs.Rounds.{IsRound}
use Rattle.cscan.proofs.Rounding.{go_on, then_ends, then_stopped, then_takes}
use Rattle.cscan.proofs.rounds.turn_on.Goals as goal

pub loop-init : goal.loop-init
loop-init g c = (
  c.requires.seated,
  refl,
  record { loads = []; only_loads = tt; went = went_nowhere c.args.station.now.pass c.requires.seated.0.3; legal = c.requires.legal; may = c.requires.may },
)

pub turn_once-requires-clause-seated : goal.turn_once-requires-clause-seated
turn_once-requires-clause-seated g c κs within = c.loop.invariant.0

pub turn_once-requires-clause-fits : goal.turn_once-requires-clause-fits
turn_once-requires-clause-fits g c κs within = c.requires.fits

pub turn_once-requires-clause-may : goal.turn_once-requires-clause-may
turn_once-requires-clause-may g c κs within =
    subst (λ (w : ℕ). MayTurn g.S.Origin.origin.setting (past c.loop.station.pass.seen) w c.args.query) (sym c.loop.invariant.1) c.loop.invariant.2.may

pub loop-preserved : goal.loop-preserved
loop-preserved g c =
    let s = g.S.Origin.origin.setting in
    let p = c.loop.station.pass in
    let t = c.turn_once.new.station.pass in
    let r = subst (λ (w : ℕ). IsRound s c.args.shape.now w c.args.query p t (Again c.in-Again.pause)) c.loop.invariant.1 c.in-Again.ensures.round in
    (c.in-Again.ensures.seated, c.turn_once.ensures.number ∙ c.loop.invariant.1, go_on s c.args.station.now.number c.args.query c.args.station.now.pass p t c.loop.invariant.2 r)

pub returns-in-Took-clause-seated : goal.returns-in-Took-clause-seated
returns-in-Took-clause-seated g c = c.in-Took.ensures.seated

pub returns-in-Took-clause-number : goal.returns-in-Took-clause-number
returns-in-Took-clause-number g c = c.turn_once.ensures.number ∙ c.loop.invariant.1

pub returns-in-Took-clause-round : goal.returns-in-Took-clause-round
returns-in-Took-clause-round g c =
    let s = g.S.Origin.origin.setting in
    let p = c.loop.station.pass in
    let t = c.turn_once.new.station.pass in
    let r = subst (λ (w : ℕ). IsRound s c.args.shape.now w c.args.query p t (Took c.in-Took.given)) c.loop.invariant.1 c.in-Took.ensures.round in
    (then_takes s c.args.station.now.number c.args.query c.in-Took.given.chunk c.args.station.now.pass p t c.loop.invariant.2 r.0, r.1, r.2, r.3)

pub returns-in-Done-clause-seated : goal.returns-in-Done-clause-seated
returns-in-Done-clause-seated g c = c.in-Done.ensures.seated

pub returns-in-Done-clause-number : goal.returns-in-Done-clause-number
returns-in-Done-clause-number g c = c.turn_once.ensures.number ∙ c.loop.invariant.1

pub returns-in-Done-clause-round : goal.returns-in-Done-clause-round
returns-in-Done-clause-round g c =
    let s = g.S.Origin.origin.setting in
    let p = c.loop.station.pass in
    let t = c.turn_once.new.station.pass in
    let r = subst (λ (w : ℕ). IsRound s c.args.shape.now w c.args.query p t Done) c.loop.invariant.1 c.in-Done.ensures.round in
    (then_ends s c.args.station.now.number c.args.query c.args.station.now.pass p t c.loop.invariant.2 r.0, r.1)

pub returns-in-Stopped-clause-seated : goal.returns-in-Stopped-clause-seated
returns-in-Stopped-clause-seated g c = c.in-Stopped.ensures.seated

pub returns-in-Stopped-clause-number : goal.returns-in-Stopped-clause-number
returns-in-Stopped-clause-number g c = c.turn_once.ensures.number ∙ c.loop.invariant.1

pub returns-in-Stopped-clause-round : goal.returns-in-Stopped-clause-round
returns-in-Stopped-clause-round g c =
    let s = g.S.Origin.origin.setting in
    let p = c.loop.station.pass in
    let t = c.turn_once.new.station.pass in
    let r = subst (λ (w : ℕ). IsRound s c.args.shape.now w c.args.query p t (Stopped c.in-Stopped.cause)) c.loop.invariant.1 c.in-Stopped.ensures.round in
    (then_stopped s c.args.station.now.number c.args.query c.args.station.now.pass p t c.in-Stopped.cause c.loop.invariant.2 r.0, r.1)
