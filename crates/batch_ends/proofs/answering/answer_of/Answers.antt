use Rattle.batch_ends.proofs.Results.{answer_joined, answer_short, answer_stopped, kept_all, kept_short, kept_stop}
use Rattle.batch_ends.proofs.answering.answer_of.Goals as goal

pub returns-in-All : goal.returns-in-All
returns-in-All c = λ rs are. answer_joined rs c.in-All.all.items c.join.result (kept_all rs c.args.parts c.in-All.all c.in-All.is are) c.join.ensures.over c.join.ensures.stops

pub returns-in-Stopped : goal.returns-in-Stopped
returns-in-Stopped c = λ rs are. answer_stopped rs c.in-Stopped.why (kept_stop rs c.args.parts c.in-Stopped.why c.in-Stopped.is are)

pub returns-in-Short : goal.returns-in-Short
returns-in-Short c = λ rs are. answer_short rs (kept_short rs c.args.parts c.in-Short.is are)
