use Rattle.prepare_rules.proofs.Spelled.{rounded-near}
use Rattle.prepare_rules.proofs.laws.numbers_are_rounded_to_the_nearest.Goals as goal

pub returns : goal.returns
returns c = rounded-near
