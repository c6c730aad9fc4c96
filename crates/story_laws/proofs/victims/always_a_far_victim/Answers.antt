use Rattle.story_laws.proofs.Laws.{always_a_far_victim}
use Rattle.story_laws.proofs.victims.always_a_far_victim.Goals as goal

pub returns : goal.returns
returns c = always_a_far_victim
