use Rattle.prepare_loads.proofs.Loading.{begins-load}
use Rattle.prepare_loads.proofs.laws.what_is_written_up_to_a_refusal_loads.Goals as goal

pub returns : goal.returns
returns c = begins-load
