use Rattle.query_gather.proofs.Tabled.{answer_of_table}
use Rattle.query_gather.proofs.same_answers.answer_of_table.Goals as goal

pub returns : goal.returns
returns c = answer_of_table
