use Rattle.std.proofs.Common.{refl}
use Rattle.filter_zones.proofs.Bits.{least_bits}
use Rattle.filter_zones.proofs.masks.Masks.and.Goals as goal

pub returns : goal.returns
returns c = λ k. least_bits c.args.self c.args.other _ k refl refl refl
