use Rattle.prepare_numbers.proofs.Nearest.{keeps-within}
use Rattle.prepare_numbers.proofs.laws.fitting_numbers_keep_their_value.Goals as goal

pub returns : goal.returns
returns c = keeps-within
