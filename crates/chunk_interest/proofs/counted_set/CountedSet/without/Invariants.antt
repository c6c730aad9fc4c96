use Rattle.std.proofs.Common.{◌≡◌, ◌-◌, ◌&&◌, not, ℕ, nat_lt}
use Rattle.scan_story.specs.Counting.{has}
use Rattle.chunk_interest.proofs.counted_set.CountedSet.without.Given as goal

-- those of the other set that are below the place that was reached are gone
abbrev pub invariant-loop-c : goal.invariant-loop-c
invariant-loop-c l = (x : ℕ) → has l.left x ≡ (has l.self x && not (has l.other x && nat_lt x l.from))

abbrev pub decreases-loop-c : goal.decreases-loop-c
decreases-loop-c l = 1024 - l.from
