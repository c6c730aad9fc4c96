use Rattle.std.proofs.Common.{◌≡◌, ◌≤◌, length}
use Rattle.frame_rows.specs.Pins.{with_pins, first_pins}
use Rattle.frame_rows.proofs.pinning.unpin_all.Given as goal

abbrev pub invariant-loop-left : goal.invariant-loop-left
invariant-loop-left g l = (l.berth ≡ with_pins l.fn.berth (first_pins l.slots l.left)) × (l.left ≤ length l.slots)

abbrev pub decreases-loop-left : goal.decreases-loop-left
decreases-loop-left g l = l.left
