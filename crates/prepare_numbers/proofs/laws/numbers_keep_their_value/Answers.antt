use Rattle.prepare_numbers.proofs.Worth.{keeps-value}
use Rattle.prepare_numbers.proofs.laws.numbers_keep_their_value.Goals as goal

pub returns : goal.returns
returns c = keeps-value
