use Rattle.waiting_core.proofs.Tally.{steps_keep}
use Rattle.waiting_core.proofs.bell.count_steps_keep.Goals as goal

pub returns : goal.returns
returns c = steps_keep
