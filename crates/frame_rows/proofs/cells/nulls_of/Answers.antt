use Rattle.std.proofs.Common.{arith, ap}
use Rattle.piece_format.specs.Shape.{words_in}
use Rattle.piece_format.proofs.Sizes.{words-within}
use Rattle.frame_rows.proofs.cells.nulls_of.Goals as goal

pub word-requires-clause-inside : goal.word-requires-clause-inside
word-requires-clause-inside g c =
    let f = c.requires.framed in omega (arith, c.null_place.ensures.there, ap words_in f.piece, words-within c.args.shape.now c.args.framed.number, f.room)
