use Rattle.query_gather.proofs.Answering.{answer_agrees}
use Rattle.query_gather.proofs.same_answers.answer_agrees.Goals as goal

pub returns : goal.returns
returns c = answer_agrees
