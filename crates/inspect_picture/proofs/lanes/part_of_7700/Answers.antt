use Rattle.std.proofs.Common.{arith}
use Rattle.std.proofs.Math.Nat.{div-le_of_le-mul}
use Rattle.inspect_picture.proofs.lanes.part_of_7700.Goals as goal

pub returns-clause-small : goal.returns-clause-small
returns-clause-small c = div-le_of_le-mul c.max.result (omega (arith, c.max.ensures, c.requires.part))
