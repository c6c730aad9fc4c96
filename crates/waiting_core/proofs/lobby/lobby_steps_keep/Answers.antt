use Rattle.waiting_core.proofs.Lobbies.{steps_keep}
use Rattle.waiting_core.proofs.lobby.lobby_steps_keep.Goals as goal

pub returns : goal.returns
returns c = steps_keep
