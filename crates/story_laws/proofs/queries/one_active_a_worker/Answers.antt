use Rattle.story_laws.proofs.Laws.{one_active_a_worker}
use Rattle.story_laws.proofs.queries.one_active_a_worker.Goals as goal

pub returns : goal.returns
returns c = one_active_a_worker
