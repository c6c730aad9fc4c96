use Rattle.prepare_numbers.proofs.Nearest.{rounds-nearest}
use Rattle.prepare_numbers.proofs.laws.numbers_are_rounded_to_the_nearest.Goals as goal

pub returns : goal.returns
returns c = rounds-nearest
