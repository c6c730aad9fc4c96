use Rattle.filter_zones.proofs.Bits.{and_set}
use Rattle.filter_zones.proofs.words.both.Goals as goal

pub returns : goal.returns
returns c = and_set c.args.a c.args.b
