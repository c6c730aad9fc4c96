use Rattle.std.proofs.Common.{arith}
use Rattle.table_sets.specs.declared.limits.TheConstants.{MOST_COLUMNS}
use Rattle.table_sets.proofs.Members.{has-insert}
use Rattle.table_sets.proofs.column_set.ColumnSet.insert.Goals as goal

pub returns : goal.returns
returns c x = rw (← c.self.view_is) (has-insert c.self.inside.words MOST_COLUMNS c.args.c x c.requires (omega (arith, c.requires, c.self.told)))
