use Rattle.story_laws.proofs.Laws.{ended_took_all}
use Rattle.story_laws.proofs.queries.ended_took_all.Goals as goal

pub returns : goal.returns
returns c = ended_took_all
