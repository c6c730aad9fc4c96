use Rattle.story_laws.proofs.Laws.{triggers_stay_starved}
use Rattle.story_laws.proofs.bounds.triggers_stay_starved.Goals as goal

pub returns : goal.returns
returns c = triggers_stay_starved
