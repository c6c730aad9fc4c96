use Rattle.prepare_blanks.proofs.Quotes.{are-kept}
use Rattle.prepare_blanks.proofs.laws.words_in_quotes_stay.Goals as goal

pub returns : goal.returns
returns c = are-kept
