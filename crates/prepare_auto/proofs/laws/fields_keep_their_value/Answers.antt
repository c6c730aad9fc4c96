use Rattle.prepare_auto.proofs.Keeping.{keeps-fields}
use Rattle.prepare_auto.proofs.laws.fields_keep_their_value.Goals as goal

pub returns : goal.returns
returns c = keeps-fields
