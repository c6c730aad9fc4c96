use Rattle.policy_box.proofs.Goings.{loads_go_around}
use Rattle.policy_box.proofs.loads.elevator_loads_go_around.Goals as goal

pub returns : goal.returns
returns c = loads_go_around
