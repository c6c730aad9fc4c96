use Rattle.query_gather.specs.Answer.{CanBeWritten}
use Rattle.run_stops.specs.Outcomes.{plans_of}
use Rattle.run_ends.proofs.Tasked.{zip-length}
use Rattle.run_ends.proofs.showing.output_of.Goals as goal

pub status_of-requires : goal.status_of-requires
status_of-requires c = record { answers = zip-length (CanBeWritten c.args.dicts.now) (plans_of c.args.outcomes.now) c.args.answers.now c.requires.answers }
