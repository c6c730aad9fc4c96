use Rattle.std.proofs.Common.{◌≡◌, ◌≤◌, ◌+◌, ◌-◌, length, ◌==◌, get_or}
use Rattle.std.specs.Int.{bit_at}
use Rattle.piece_format.specs.Words.{bits}
use Rattle.frame_rows.proofs.lanes.column_bits.Given as goal

-- the bits of the masks from i on
abbrev pub invariant-loop-i : goal.invariant-loop-i
invariant-loop-i l = record {
  within : l.i ≤ length l.masks;
  bits : l.word ≡ bits (λ j. bit_at (get_or l.masks (l.i + j) 0) l.column == 1) (length l.masks - l.i);
}

abbrev pub decreases-loop-i : goal.decreases-loop-i
decreases-loop-i l = l.i
