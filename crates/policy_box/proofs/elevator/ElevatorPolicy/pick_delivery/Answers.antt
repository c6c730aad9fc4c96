use Rattle.relevance.proofs.Chosen.{active_small}
use Rattle.policy_box.proofs.Elevators.{delivery_picked}
use Rattle.policy_box.proofs.elevator.ElevatorPolicy.pick_delivery.Goals as goal

pub first_to_deliver-requires : goal.first_to_deliver-requires
first_to_deliver-requires c = active_small c.args.book.now c.args.q c.requires

pub returns-clause-picks : goal.returns-clause-picks
returns-clause-picks c = λ s h st. delivery_picked s h c.args.self.now.next c.args.q c.first_to_deliver.result (c.first_to_deliver.ensures.nearest s h st)
