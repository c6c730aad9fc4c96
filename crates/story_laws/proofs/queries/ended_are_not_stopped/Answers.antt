use Rattle.story_laws.proofs.Laws.{ended_are_not_stopped}
use Rattle.story_laws.proofs.queries.ended_are_not_stopped.Goals as goal

pub returns : goal.returns
returns c = ended_are_not_stopped
