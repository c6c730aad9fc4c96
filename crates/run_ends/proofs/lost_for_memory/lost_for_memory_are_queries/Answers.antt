use Rattle.run_ends.proofs.Losing.{some_query}
use Rattle.run_ends.proofs.lost_for_memory.lost_for_memory_are_queries.Goals as goal

pub returns : goal.returns
returns c = some_query
