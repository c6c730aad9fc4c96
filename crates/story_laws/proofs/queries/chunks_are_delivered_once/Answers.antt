use Rattle.story_laws.proofs.Laws.{delivered_once_each}
use Rattle.story_laws.proofs.queries.chunks_are_delivered_once.Goals as goal

pub returns : goal.returns
returns c = delivered_once_each
