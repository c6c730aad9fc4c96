use Rattle.waiting_core.proofs.Lobbies.{nobody_sleeps_on}
use Rattle.waiting_core.proofs.lobby.nobody_sleeps_on.Goals as goal

pub returns : goal.returns
returns c = nobody_sleeps_on
