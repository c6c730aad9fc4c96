use Rattle.chunk_interest.proofs.Counting.{counted_none}
use Rattle.chunk_interest.proofs.counted_set.CountedSet.empty.Goals as goal

pub invariant_of-result : goal.invariant_of-result
invariant_of-result c = counted_none c.empty.result c.empty.ensures
