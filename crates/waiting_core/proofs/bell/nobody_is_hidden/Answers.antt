use Rattle.waiting_core.proofs.Tally.{nobody_is_hidden}
use Rattle.waiting_core.proofs.bell.nobody_is_hidden.Goals as goal

pub returns : goal.returns
returns c = nobody_is_hidden
