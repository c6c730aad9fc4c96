use Rattle.std.proofs.Common.{◌≡◌}
use Rattle.run_inputs.specs.Draws.{state}
use Rattle.run_inputs.specs.GeneratedTable.{table_text}
use Rattle.run_inputs.proofs.generated_table.table_text.Given as goal

abbrev pub invariant-loop-id : goal.invariant-loop-id
invariant-loop-id l = record { text : l.text.items ≡ table_text l.seed l.id; state : l.draws.state ≡ state l.seed l.id }
