use Rattle.filter_zones.proofs.Bits.{without_set}
use Rattle.filter_zones.proofs.words.without.Goals as goal

pub returns : goal.returns
returns c = λ k low. without_set c.args.word c.args.other k c.ranges.other.fits low
