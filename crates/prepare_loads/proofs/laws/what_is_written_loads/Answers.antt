use Rattle.prepare_loads.proofs.Loading.{loads}
use Rattle.prepare_loads.proofs.laws.what_is_written_loads.Goals as goal

pub returns : goal.returns
returns c = loads
