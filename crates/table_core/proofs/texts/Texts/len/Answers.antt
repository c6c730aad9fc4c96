use Rattle.std.proofs.Common.{ap, length, arith}
use Rattle.table_core.proofs.Cutting.{cut-length}
use Rattle.table_core.proofs.texts.Texts.len.Goals as goal

pub returns : goal.returns
returns c = omega (arith, c.len.ensures, c.self.inside.ends.ok.0, cut-length 0 c.self.inside.ends.items c.self.inside.bytes.items, ap length c.self.view_is)
