use Rattle.filter_zones.proofs.Bits.{not_set}
use Rattle.filter_zones.proofs.words.complement.Goals as goal

pub returns : goal.returns
returns c = λ k low. not_set c.args.word k c.ranges.word.fits low
