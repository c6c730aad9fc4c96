use Rattle.waiting_core.proofs.Going.{never_stands_still}
use Rattle.waiting_core.proofs.whole.never_stands_still.Goals as goal

pub returns : goal.returns
returns c = never_stands_still
