use Rattle.piece_format.specs.Broken.{NoneBroken}
use Rattle.piece_format.specs.Bytes.{word_of}
use Rattle.piece_format.proofs.checking.check_words.Given as goal

abbrev pub invariant-loop-place : goal.invariant-loop-place
invariant-loop-place l = NoneBroken l.shape l.fn.piece (word_of l.bytes) l.place
