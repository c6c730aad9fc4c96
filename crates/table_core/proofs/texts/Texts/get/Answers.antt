use Rattle.std.proofs.Common.{ap, length, arith}
use Rattle.table_core.proofs.Cutting.{cut-length}
use Rattle.table_core.proofs.texts.Texts.get.Goals as goal

pub text_at-requires-clause-there : goal.text_at-requires-clause-there
text_at-requires-clause-there c =
    omega (arith, c.requires, ap length c.as_slice-2.ensures.value, cut-length 0 c.self.inside.ends.items c.self.inside.bytes.items, ap length c.self.view_is)
