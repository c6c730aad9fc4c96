use Rattle.std.proofs.Common.{◌≡◌}
use Rattle.prepare_decode.specs.Decoding.{is_big, units_below}
use Rattle.prepare_decode.proofs.wide.units_of.Given as goal

abbrev pub invariant-loop-i : goal.invariant-loop-i
invariant-loop-i l = l.units.items ≡ units_below (is_big l.bytes) l.bytes l.i
