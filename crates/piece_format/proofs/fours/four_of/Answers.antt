use Rattle.std.proofs.lemmas.Simd.{get_or-chunk}
use Rattle.piece_format.proofs.fours.four_of.Goals as goal

pub returns-clause-numbers : goal.returns-clause-numbers
returns-clause-numbers c = λ l low. get_or-chunk c.args.from 4 c.args.numbers.now l 0 low
