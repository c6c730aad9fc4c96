use Rattle.run_ends.proofs.Stopped.{stops_are}
use Rattle.run_ends.proofs.stopped_queries.stops_are_stopped_queries.Goals as goal

pub returns : goal.returns
returns c = stops_are
