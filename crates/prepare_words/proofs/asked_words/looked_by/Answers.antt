use Rattle.prepare_words.proofs.Steps.{later}
use Rattle.prepare_words.proofs.asked_words.looked_by.Goals as goal

pub returns-in-Err-clause-refused : goal.returns-in-Err-clause-refused
returns-in-Err-clause-refused c = later _ _ _ c.in-Err.ensures
