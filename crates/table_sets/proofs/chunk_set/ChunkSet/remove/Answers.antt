use Rattle.std.proofs.Common.{arith}
use Rattle.table_sets.specs.declared.limits.TheConstants.{MOST_CHUNKS}
use Rattle.table_sets.proofs.Members.{has-remove}
use Rattle.table_sets.proofs.chunk_set.ChunkSet.remove.Goals as goal

pub returns : goal.returns
returns c x = rw (← c.self.view_is) (has-remove c.self.inside.words MOST_CHUNKS c.args.c x (omega (arith, c.requires, c.self.told)))
