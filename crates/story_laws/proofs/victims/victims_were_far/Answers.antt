use Rattle.story_laws.proofs.Laws.{victims_were_far}
use Rattle.story_laws.proofs.victims.victims_were_far.Goals as goal

pub returns : goal.returns
returns c = victims_were_far
