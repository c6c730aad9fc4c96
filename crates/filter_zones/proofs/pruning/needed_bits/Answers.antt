use Rattle.std.proofs.Common.{◌==◌, ap, arith}
use Rattle.std.proofs.lemmas.Nat.Bits.{bit_at_ones}
use Rattle.filter_zones.proofs.pruning.needed_bits.Goals as goal

pub returns-in-None : goal.returns-in-None
returns-in-None c = λ k low. rw c.in-None.is (ap (λ n. n == 1) (bit_at_ones 64 k (omega (arith, low, c.requires.few))))
