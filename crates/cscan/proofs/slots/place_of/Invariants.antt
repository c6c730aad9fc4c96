use Rattle.std.proofs.Common.{◌≢◌, ◌<◌, ℕ}
use Rattle.frame_rows.specs.Pins.{slot_at}
use Rattle.cscan.proofs.slots.place_of.Given as goal

abbrev pub invariant-loop-i : goal.invariant-loop-i
invariant-loop-i l = (k : ℕ) → k < l.i → (slot_at l.slots k).1 ≢ l.piece
