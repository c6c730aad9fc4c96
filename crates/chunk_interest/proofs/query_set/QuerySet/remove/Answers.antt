use Rattle.std.proofs.Common.{arith}
use Rattle.table_sets.proofs.Members.{has-remove}
use Rattle.chunk_interest.proofs.query_set.QuerySet.remove.Goals as goal

pub returns : goal.returns
returns c x = rw (← c.self.view_is) (has-remove c.self.inside.words 320 c.args.q x (omega (arith, c.requires, c.self.told)))
