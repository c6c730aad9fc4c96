use Rattle.query_gather.proofs.Standing.{stands_reordered}
use Rattle.query_gather.proofs.same_answers.any_order.Goals as goal

pub returns : goal.returns
returns c = stands_reordered
