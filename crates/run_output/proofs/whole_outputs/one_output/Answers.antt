use Rattle.run_output.proofs.Prints.{print_each}
use Rattle.run_output.proofs.whole_outputs.one_output.Goals as goal

pub returns : goal.returns
returns c = λ columns dicts texts outcomes answers table come are fits. print_each columns dicts table fits 1 texts outcomes answers come are
