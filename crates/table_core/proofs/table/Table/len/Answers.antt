use Rattle.std.proofs.Common.{sym}
use Rattle.table_core.proofs.Columns.{length-rows}
use Rattle.table_core.proofs.table.Table.len.Goals as goal

pub returns : goal.returns
returns c = rw (← c.self.view_is) (sym (length-rows c.self.inside.rows c.self.inside.columns.items))
