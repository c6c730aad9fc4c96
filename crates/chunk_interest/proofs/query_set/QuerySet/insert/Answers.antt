use Rattle.std.proofs.Common.{arith}
use Rattle.table_sets.proofs.Members.{has-insert}
use Rattle.chunk_interest.proofs.query_set.QuerySet.insert.Goals as goal

pub returns : goal.returns
returns c x = rw (← c.self.view_is) (has-insert c.self.inside.words 320 c.args.q x c.requires (omega (arith, c.requires, c.self.told)))
