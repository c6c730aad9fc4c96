use Rattle.std.proofs.Common.{◌≡◌, drop}
use Rattle.prepare_numbers.specs.Spells.{power}
use Rattle.prepare_numbers.proofs.mantissa.power.Given as goal

abbrev pub invariant-loop-i : goal.invariant-loop-i
invariant-loop-i l = power (drop l.i l.field) ≡ power l.field
