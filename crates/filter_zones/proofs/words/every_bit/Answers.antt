use Rattle.std.proofs.Common.{◌==◌, ap}
use Rattle.std.proofs.lemmas.Nat.Bits.{bit_at_ones}
use Rattle.filter_zones.proofs.words.every_bit.Goals as goal

pub returns : goal.returns
returns c = λ k low. ap (λ n. n == 1) (bit_at_ones 64 k low)
