use Rattle.std.proofs.Common.{length, arith, ap}
use Rattle.table_core.proofs.Nulls.{length-numbers}
use Rattle.table_core.proofs.numbers.Numbers.len.Goals as goal

pub returns : goal.returns
returns c = omega (arith, c.len.ensures, c.self.inside.values.ok.0, length-numbers c.self.inside.values.items c.self.inside.nulls.items, ap length c.self.view_is)
