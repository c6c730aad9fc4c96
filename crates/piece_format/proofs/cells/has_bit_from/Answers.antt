use Rattle.piece_format.proofs.Bits.{high_bit}
use Rattle.piece_format.proofs.cells.has_bit_from.Goals as goal

pub returns-then-count-lt64 : goal.returns-then-count-lt64
returns-then-count-lt64 c = high_bit c.args.word c.args.count
