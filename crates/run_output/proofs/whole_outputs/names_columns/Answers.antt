use Rattle.run_output.proofs.Columns.{names_columns}
use Rattle.run_output.proofs.whole_outputs.names_columns.Goals as goal

pub returns : goal.returns
returns c = names_columns
