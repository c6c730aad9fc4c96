use Rattle.std.proofs.Common.{◌≡◌, ◌<◌, ◌≤◌, ◌+◌, ℕ, get_or}
use Rattle.std.specs.Prelude.{int_lt}
use Rattle.std.specs.Int.{cast_signed, w64}
use Rattle.filter_zones.specs.Masks.{is_set}
use Rattle.filter_zones.proofs.lane_truths.numbers_below.Given as goal

-- the bits of the last words are made
abbrev pub invariant-loop-i : goal.invariant-loop-i
invariant-loop-i l = (l.i ≤ 64) × ((j : ℕ) → l.i + j < 64 → is_set l.bits j ≡ int_lt (cast_signed w64 (get_or l.words (l.i + j) 0)) l.limit)

abbrev pub decreases-loop-i : goal.decreases-loop-i
decreases-loop-i l = l.i
