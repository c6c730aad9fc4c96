use Rattle.std.proofs.Common.{length}
use Rattle.table_core.proofs.Columns.{rows-wide}
use Rattle.table_core.proofs.table.Table.rows_are_whole.Goals as goal

pub returns : goal.returns
returns c = rw (← c.self.view_is) (rows-wide (length c.self.inside.schema) c.self.inside.rows c.self.inside.columns.items c.self.invariant)
