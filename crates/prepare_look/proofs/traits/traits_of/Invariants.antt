use Rattle.std.proofs.Common.{◌≡◌, drop}
use Rattle.prepare_look.specs.Traits.{no_traits, traits_from}
use Rattle.prepare_look.proofs.traits.traits_of.Given as goal

abbrev pub invariant-loop-i : goal.invariant-loop-i
invariant-loop-i l = traits_from l.traits (drop l.i l.field) ≡ traits_from no_traits l.field
