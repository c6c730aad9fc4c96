use Rattle.waiting_ends.proofs.Stepping.{nobody_is_stuck}
use Rattle.waiting_ends.proofs.order.nobody_is_stuck.Goals as goal

pub returns : goal.returns
returns c = nobody_is_stuck
