use Rattle.std.proofs.Common.{◌∷◌, [], arith, bit_or}
use Rattle.std.proofs.lemmas.Simd.{get_or-zip2}
use Rattle.piece_format.proofs.fours.with_bits_of.Goals as goal

pub returns : goal.returns
returns c = get_or-zip2 bit_or c.args.lanes (c.args.word ∷ c.args.word ∷ []) 0 0 0 0 (omega (arith, c.fits-lanes.0)) (omega arith)
