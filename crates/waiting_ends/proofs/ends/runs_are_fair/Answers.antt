use Rattle.waiting_ends.proofs.Running.{runs_are_fair}
use Rattle.waiting_ends.proofs.ends.runs_are_fair.Goals as goal

pub returns : goal.returns
returns c = runs_are_fair
