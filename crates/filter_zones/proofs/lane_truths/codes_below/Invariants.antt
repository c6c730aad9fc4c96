use Rattle.std.proofs.Common.{◌≡◌, ◌<◌, ◌≤◌, ◌+◌, ◌%◌, ℕ, get_or}
use Rattle.std.specs.Prelude.{nat_lt}
use Rattle.filter_zones.specs.Masks.{is_set}
use Rattle.filter_zones.proofs.lane_truths.codes_below.Given as goal

-- the bits of the last words are made
abbrev pub invariant-loop-i : goal.invariant-loop-i
invariant-loop-i l = (l.i ≤ 64) × ((j : ℕ) → l.i + j < 64 → is_set l.bits j ≡ nat_lt (get_or l.words (l.i + j) 0 % 4294967296) l.limit)

abbrev pub decreases-loop-i : goal.decreases-loop-i
decreases-loop-i l = l.i
