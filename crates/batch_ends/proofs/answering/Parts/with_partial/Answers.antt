use Rattle.std.specs.Prelude.{Ok}
use Rattle.batch_ends.proofs.Results.{kept_short, kept_stop, short_more, stopped_more}
use Rattle.batch_ends.proofs.answering.Parts.with_partial.Goals as goal

pub returns-in-Stopped : goal.returns-in-Stopped
returns-in-Stopped c = λ rs are. stopped_more rs (Ok c.args.partial) c.in-Stopped.why (kept_stop rs c.args.self c.in-Stopped.why c.in-Stopped.is are)

pub returns-in-Short : goal.returns-in-Short
returns-in-Short c = λ rs are. short_more rs c.args.partial (kept_short rs c.args.self c.in-Short.is are)
