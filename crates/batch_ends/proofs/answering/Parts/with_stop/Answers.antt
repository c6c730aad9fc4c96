use Rattle.std.specs.Prelude.{Err}
use Rattle.batch_ends.proofs.Results.{all_short, kept_all, kept_short, kept_stop, stopped_more, stopped_now}
use Rattle.batch_ends.proofs.answering.Parts.with_stop.Goals as goal

pub returns-in-All : goal.returns-in-All
returns-in-All c = λ rs are. stopped_now rs c.args.why (all_short rs c.in-All.field-0.items (kept_all rs c.args.self c.in-All.field-0 c.in-All.is are))

pub returns-in-Stopped : goal.returns-in-Stopped
returns-in-Stopped c = λ rs are. stopped_more rs (Err c.args.why) c.in-Stopped.first (kept_stop rs c.args.self c.in-Stopped.first c.in-Stopped.is are)

pub returns-in-Short : goal.returns-in-Short
returns-in-Short c = λ rs are. stopped_now rs c.args.why (kept_short rs c.args.self c.in-Short.is are)
