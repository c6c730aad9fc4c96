use Rattle.waiting_ends.proofs.Running.{runs_end}
use Rattle.waiting_ends.proofs.ends.runs_end.Goals as goal

pub returns : goal.returns
returns c = runs_end
