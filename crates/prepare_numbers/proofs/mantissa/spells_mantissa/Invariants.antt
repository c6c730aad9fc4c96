use Rattle.std.proofs.Common.{◌≡◌, drop}
use Rattle.prepare_numbers.specs.Spells.{spells_from, spells_mantissa}
use Rattle.prepare_numbers.proofs.mantissa.spells_mantissa.Given as goal

abbrev pub invariant-loop-i : goal.invariant-loop-i
invariant-loop-i l = spells_from l.mark l.parts l.place (drop l.i l.bytes) ≡ spells_mantissa l.mark l.parts l.bytes
