use Rattle.std.proofs.Common.{All, subst}
use Rattle.baton.specs.Passes.{AgreesWith}
use Rattle.batch_run.specs.Crews.{passes_of}
use Rattle.batch_run.proofs.Endings.{idle_at_end, none_underway}
use Rattle.batch_run.proofs.Seats.{all_passes}
use Rattle.batch_run.proofs.seating.close.Goals as goal
use Rattle.batch_run.proofs.seating.close.Goals.{After-finish-desk}

-- the final story agrees with each pass
agree : (g : _) (c : After-finish-desk g) → All (AgreesWith g.S.Origin.origin c.finish-desk.result) (passes_of c.args.works.crew)
agree g c =
    let here = all_passes c.args.works.crew c.unseat_all.new.crew c.unseat_all.ensures.empty c.unseat_all.ensures.passes in
    subst (All (AgreesWith g.S.Origin.origin c.finish-desk.result)) here c.finish-desk.ensures

pub into_parts-story-requires-clause-idle : goal.into_parts-story-requires-clause-idle
into_parts-story-requires-clause-idle g c κs within =
    let o = g.S.Origin.origin in
    let story = c.finish-desk.result in
    let legal = c.is_legal.ensures.legal in
    none_underway o _ c.requires.start legal
    (λ w low. idle_at_end o story (passes_of c.args.works.crew) w c.requires.numbers c.requires.rest (agree g (goal.at.into_parts-story-requires-clause-idle g c).After-finish-desk) legal low)

pub returns-clause-agree : goal.returns-clause-agree
returns-clause-agree g c = rw c.into_parts-story.ensures.entries (agree g (goal.at.returns-clause-agree g c).After-finish-desk)
