use Rattle.story_laws.proofs.Laws.{loads_are_proper}
use Rattle.story_laws.proofs.frames.loads_are_proper.Goals as goal

pub returns : goal.returns
returns c = loads_are_proper
