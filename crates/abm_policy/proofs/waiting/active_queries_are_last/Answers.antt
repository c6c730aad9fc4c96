use Rattle.abm_policy.proofs.Resting as law
use Rattle.abm_policy.proofs.waiting.active_queries_are_last.Goals as goal

pub returns : goal.returns
returns c = law.active_is_last
