use Rattle.abm_policy.proofs.Meanwhile as law
use Rattle.abm_policy.proofs.waiting.queries_run_on.Goals as goal

pub returns : goal.returns
returns c = law.runs_stay
