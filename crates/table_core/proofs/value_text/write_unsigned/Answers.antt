use Rattle.std.proofs.Common.{arith}
use Rattle.std.proofs.Math.Nat.{one-le-pow}
use Rattle.table_core.proofs.value_text.write_unsigned.Goals as goal

pub nonzero_div-whole : goal.nonzero_div-whole
nonzero_div-whole c = rw c.pow.ensures (one-le-pow c.args.places 10 (omega arith))
