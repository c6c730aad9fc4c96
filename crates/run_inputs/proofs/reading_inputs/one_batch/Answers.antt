use Rattle.run_inputs.proofs.Spans.{has-spans, only-spans}
use Rattle.run_inputs.proofs.reading_inputs.one_batch.Goals as goal

pub returns-clause-has : goal.returns-clause-has
returns-clause-has c batch = has-spans batch

pub returns-clause-only : goal.returns-clause-only
returns-clause-only c batch spans h = only-spans batch spans h
