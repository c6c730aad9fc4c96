use Rattle.story_laws.proofs.Laws.{chosen_is_far}
use Rattle.story_laws.proofs.victims.chosen_victims_are_far.Goals as goal

pub returns : goal.returns
returns c = chosen_is_far
