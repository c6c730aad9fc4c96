use Rattle.query_gather.proofs.Written.{can_be_written}
use Rattle.query_gather.proofs.same_answers.can_be_written.Goals as goal

pub returns : goal.returns
returns c = can_be_written
