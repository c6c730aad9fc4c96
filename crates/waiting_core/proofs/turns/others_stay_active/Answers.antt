use Rattle.waiting_core.proofs.Bringing.{others_stay}
use Rattle.waiting_core.proofs.turns.others_stay_active.Goals as goal

pub returns : goal.returns
returns c = others_stay
