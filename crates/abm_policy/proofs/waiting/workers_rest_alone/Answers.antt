use Rattle.abm_policy.proofs.Resting as law
use Rattle.abm_policy.proofs.waiting.workers_rest_alone.Goals as goal

pub returns : goal.returns
returns c = law.rests_alone
