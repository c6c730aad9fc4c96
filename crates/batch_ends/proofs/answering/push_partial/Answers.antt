use Rattle.batch_ends.proofs.Results.{all_short, short_more}
use Rattle.batch_ends.proofs.answering.push_partial.Goals as goal

pub returns-in-Err : goal.returns-in-Err
returns-in-Err c = λ rs are. short_more rs c.args.partial (all_short rs c.args.all.items are)
