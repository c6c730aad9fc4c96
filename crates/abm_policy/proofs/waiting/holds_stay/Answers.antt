use Rattle.abm_policy.proofs.Meanwhile as law
use Rattle.abm_policy.proofs.waiting.holds_stay.Goals as goal

pub returns : goal.returns
returns c = law.holds_stay
