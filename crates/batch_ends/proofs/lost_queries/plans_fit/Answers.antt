use Rattle.batch_ends.proofs.Plans.{plan_fits}
use Rattle.batch_ends.proofs.lost_queries.plans_fit.Goals as goal

pub returns : goal.returns
returns c = λ text columns dicts p is. plan_fits text columns dicts p is
