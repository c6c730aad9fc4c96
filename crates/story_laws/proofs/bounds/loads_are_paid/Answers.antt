use Rattle.story_laws.proofs.Laws.{loads_are_paid}
use Rattle.story_laws.proofs.bounds.loads_are_paid.Goals as goal

pub returns : goal.returns
returns c = loads_are_paid
