use Rattle.prepare_numbers.proofs.Nearest.{stays-within}
use Rattle.prepare_numbers.proofs.laws.numbers_stay_within.Goals as goal

pub returns : goal.returns
returns c = stays-within
