use Rattle.table_sets.specs.Sets.{bit_of}
use Rattle.table_sets.specs.declared.limits.TheConstants.{MOST_CHUNKS}
use Rattle.table_sets.proofs.Members.{numbers-rise}
use Rattle.table_sets.proofs.chunk_set.ChunkSet.len.Goals as goal

pub returns-clause-members : goal.returns-clause-members
returns-clause-members c = rw (← c.self.view_is) (numbers-rise (bit_of c.self.inside.words) MOST_CHUNKS)
