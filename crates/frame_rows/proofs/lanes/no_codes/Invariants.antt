use Rattle.std.proofs.Common.{◌≡◌, ◌≤◌, ◌+◌, ◌-◌, length, get_or, nat_le}
use Rattle.piece_format.specs.Words.{bits}
use Rattle.frame_rows.proofs.lanes.no_codes.Given as goal

-- the bits of the words from i on
abbrev pub invariant-loop-i : goal.invariant-loop-i
invariant-loop-i l = record {
  within : l.i ≤ length l.words;
  bits : l.word ≡ bits (λ j. nat_le l.dict_len (get_or l.words (l.i + j) 0)) (length l.words - l.i);
}

abbrev pub decreases-loop-i : goal.decreases-loop-i
decreases-loop-i l = l.i
