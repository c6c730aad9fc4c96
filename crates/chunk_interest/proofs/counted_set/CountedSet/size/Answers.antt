use Rattle.std.proofs.Common.{arith}
use Rattle.chunk_interest.proofs.Counting.{few_members}
use Rattle.chunk_interest.proofs.counted_set.CountedSet.size.Goals as goal

pub returns-clause-few : goal.returns-clause-few
returns-clause-few c = let few = few_members c.self.inside.set in omega (arith, few, c.self.invariant.size)
