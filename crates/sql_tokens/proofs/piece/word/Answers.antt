use Rattle.std.proofs.Common.{get_or, ap}
use Rattle.sql_tokens.specs.Pieces.{kind_of_word}
use Rattle.sql_tokens.specs.declared.class.Class.TheVariants as class
use Rattle.sql_tokens.specs.declared.piece.Piece.TheVariants.{Lexeme}
use Rattle.sql_tokens.proofs.Runs.{run_longest}
use Rattle.sql_tokens.proofs.Pieces.{letter_is_word}
use Rattle.sql_tokens.proofs.piece.word.Goals as goal

pub returns : goal.returns
returns c =
    run_longest class.Word (λ w. Lexeme (kind_of_word w)) c.args.bytes.now _ _ c.requires.some (letter_is_word (get_or c.args.bytes.now 0 0) c.requires.first) c.run_len-end.ensures.value (ap Lexeme c.kind_of_word.ensures)
