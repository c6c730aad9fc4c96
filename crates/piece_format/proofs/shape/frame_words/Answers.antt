use Rattle.std.proofs.Common.{◌≡◌, arith, rules}
use Rattle.piece_format.specs.Shape.{frame_words}
use Rattle.piece_format.proofs.Sizes.{words-within}
use Rattle.piece_format.proofs.shape.frame_words.Goals as goal

pub returns-clause-greatest : goal.returns-clause-greatest
returns-clause-greatest c = λ p low.
    let whole : c.word_count.result ≡ frame_words c.args.shape.now = search rules in
    omega (arith, whole, words-within c.args.shape.now p)
