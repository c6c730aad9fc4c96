use Rattle.prepare_rules.proofs.Spelled.{keeps-worth}
use Rattle.prepare_rules.proofs.laws.numbers_keep_their_value.Goals as goal

pub returns : goal.returns
returns c = keeps-worth
