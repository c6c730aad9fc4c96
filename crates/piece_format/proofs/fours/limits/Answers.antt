use Rattle.std.proofs.Common.{◌+◌, ◌∙◌, arith}
use Rattle.piece_format.proofs.Lanes.{limit_lane}
use Rattle.piece_format.proofs.fours.limits.Goals as goal

pub returns : goal.returns
returns c = λ l low.
    limit_lane c.four_of-bits.result c.args.tops c.args.nulls (c.args.from + l) l c.four_of-bits.ensures.lanes c.fits-tops.0 low
    (c.four_of-bits.ensures.numbers l low ∙ c.requires.bits (c.args.from + l) (omega (arith, c.requires.from, low)))
