use Rattle.std.proofs.Common.{◌≡◌, drop}
use Rattle.prepare_look.specs.Exponents.{power_from}
use Rattle.prepare_look.specs.declared.exponent.Power.TheVariants as p
use Rattle.prepare_look.proofs.exponent.has_exponent.Given as goal

abbrev pub invariant-loop-i : goal.invariant-loop-i
invariant-loop-i l = power_from l.power (drop l.i l.field) ≡ power_from p.Begin l.field
