use Rattle.relevance.proofs.Chosen.{active_small}
use Rattle.policy_box.proofs.elevator.ElevatorPolicy.pick_load.Goals as goal

pub first_to_load-requires : goal.first_to_load-requires
first_to_load-requires c = active_small c.args.book.now c.args.q c.requires
