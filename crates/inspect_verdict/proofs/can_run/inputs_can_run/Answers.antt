use Rattle.run_ends.proofs.GivenTexts.{can-run}
use Rattle.inspect_verdict.proofs.can_run.inputs_can_run.Goals as goal

pub returns : goal.returns
returns c = can-run
