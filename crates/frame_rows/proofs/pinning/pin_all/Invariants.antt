use Rattle.std.proofs.Common.{◌≡◌}
use Rattle.frame_rows.specs.Pins.{with_pins, first_pins}
use Rattle.frame_rows.proofs.pinning.pin_all.Given as goal

abbrev pub invariant-loop-i : goal.invariant-loop-i
invariant-loop-i g l = l.berth ≡ with_pins l.fn.berth (first_pins l.slots l.i)
