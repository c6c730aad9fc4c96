use Rattle.std.proofs.Common.{◌∙◌}
use Rattle.policy_box.proofs.Elevators.{reach_is, no_reach}
use Rattle.policy_box.proofs.elevator.reach.Goals as goal

pub returns-in-Some : goal.returns-in-Some
returns-in-Some c = λ s h st. c.distance.ensures ∙ reach_is s h c.args.next c.args.q c.chunks.result c.in-Some.c (c.chunks.ensures.number s h st) (c.in-Some.ensures.nearest s h st)

pub returns-in-None : goal.returns-in-None
returns-in-None c = λ s h st. no_reach s h c.args.next c.args.q c.chunks-in-None.result (c.chunks-in-None.ensures.number s h st) (c.in-None.ensures.nearest s h st)
