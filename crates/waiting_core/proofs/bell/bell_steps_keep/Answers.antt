use Rattle.waiting_core.proofs.Bells.{steps_keep}
use Rattle.waiting_core.proofs.bell.bell_steps_keep.Goals as goal

pub returns : goal.returns
returns c = steps_keep
