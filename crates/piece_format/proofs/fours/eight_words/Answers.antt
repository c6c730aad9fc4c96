use Rattle.std.proofs.Common.{◌+◌, ◌∙◌}
use Rattle.piece_format.specs.Bytes.{word_of}
use Rattle.piece_format.proofs.Lanes.{eight_lanes}
use Rattle.piece_format.proofs.fours.eight_words.Goals as goal

pub returns-clause-words : goal.returns-clause-words
returns-clause-words c =
    let at = c.from_word-words.ensures.words in
    eight_lanes _ _ _ _ _ _ _ _ (λ l. word_of c.args.bytes.now (c.args.from + l)) (c.word_at.ensures ∙ at 0) (c.word_at-2.ensures ∙ at 1) (c.word_at-3.ensures ∙ at 2) (c.word_at-4.ensures ∙ at 3)
    (c.word_at-5.ensures ∙ at 4) (c.word_at-6.ensures ∙ at 5) (c.word_at-7.ensures ∙ at 6) (c.word_at-8.ensures ∙ at 7)
