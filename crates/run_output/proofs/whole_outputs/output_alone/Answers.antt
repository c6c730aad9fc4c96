use Rattle.run_output.proofs.Alone.{output_alone}
use Rattle.run_output.proofs.whole_outputs.output_alone.Goals as goal

pub returns : goal.returns
returns c = output_alone
