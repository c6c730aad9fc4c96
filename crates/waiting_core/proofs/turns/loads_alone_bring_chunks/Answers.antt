use Rattle.waiting_core.proofs.Bringing.{loads_alone}
use Rattle.waiting_core.proofs.turns.loads_alone_bring_chunks.Goals as goal

pub returns : goal.returns
returns c = loads_alone
