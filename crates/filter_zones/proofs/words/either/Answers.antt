use Rattle.filter_zones.proofs.Bits.{or_set}
use Rattle.filter_zones.proofs.words.either.Goals as goal

pub returns : goal.returns
returns c = or_set c.args.a c.args.b
