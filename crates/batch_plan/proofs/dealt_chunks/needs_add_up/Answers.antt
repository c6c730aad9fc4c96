use Rattle.batch_plan.proofs.Adding.{all_add_up}
use Rattle.batch_plan.proofs.dealt_chunks.needs_add_up.Goals as goal

pub returns : goal.returns
returns c = all_add_up
