use Rattle.waiting_core.proofs.Bells.{sleepers_are_seen}
use Rattle.waiting_core.proofs.bell.sleepers_are_seen.Goals as goal

pub returns : goal.returns
returns c = sleepers_are_seen
