use Rattle.std.proofs.Common.{arith}
use Rattle.piece_format.proofs.Lanes.{value_bit}
use Rattle.piece_format.proofs.fours.value_bits.Goals as goal

pub returns : goal.returns
returns c = λ l low clear. value_bit c.args.words 8 l c.fits-words.0 (omega arith) low clear
