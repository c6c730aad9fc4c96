use Rattle.std.proofs.Common.{refl, ap, subst}
use Rattle.crossbeam_queue.specs.Passes.{view}
use Rattle.baton.specs.declared.view.View.{View}
use Rattle.baton.specs.Rule.{AgreesWithTold}
use Rattle.baton.specs.Steps.{told_of}
use Rattle.baton.proofs.Keeps.{absorbs, learns}
use Rattle.baton.proofs.line.absorb.Goals as goal

pub absorb-requires-clause-rule : goal.absorb-requires-clause-rule
absorb-requires-clause-rule g c = absorbs _ _ _ _ _ _ c.requires.holding.0 c.requires.holding.1 c.requires.other

pub learn_as-requires-clause-rule : goal.learn_as-requires-clause-rule
learn_as-requires-clause-rule g c = learns _ _ _ _ (ap (λ (v : View). v.role) c.absorb.ensures.rule)

pub returns-clause-agrees : goal.returns-clause-agrees
returns-clause-agrees g c =
    let v : View = view c.args.seat.now in
    let u : View = view c.args.other in
    let told : AgreesWithTold (told_of v u) = subst AgreesWithTold c.absorb.ensures.rule c.learn_as.ensures.rule.1 in
    told u.share refl
