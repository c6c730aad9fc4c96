use Rattle.story_laws.proofs.Laws.{few_are_active}
use Rattle.story_laws.proofs.queries.few_are_active.Goals as goal

pub returns : goal.returns
returns c = few_are_active
