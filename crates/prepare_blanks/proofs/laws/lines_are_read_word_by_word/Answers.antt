use Rattle.prepare_blanks.proofs.Reading.{are-words}
use Rattle.prepare_blanks.proofs.laws.lines_are_read_word_by_word.Goals as goal

pub returns : goal.returns
returns c = are-words
