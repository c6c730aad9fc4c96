use Rattle.std.proofs.Common.{arith, sym}
use Rattle.table_core.proofs.Cutting.{start-is}
use Rattle.table_core.proofs.texts.start_of.Goals as goal

pub returns : goal.returns
returns c = sym (start-is c.args.ends.now c.args.place (omega arith))
