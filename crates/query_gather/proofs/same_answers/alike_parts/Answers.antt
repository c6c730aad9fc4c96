use Rattle.query_gather.proofs.Alike.{both_alike}
use Rattle.query_gather.proofs.same_answers.alike_parts.Goals as goal

pub returns : goal.returns
returns c = both_alike
