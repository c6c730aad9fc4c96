use Rattle.std.proofs.Common.{◌≡◌, ◌<◌, ℕ}
use Rattle.scan_story.specs.Counting.{has}
use Rattle.chunk_interest.specs.Counts.{shares_in}
use Rattle.chunk_interest.proofs.sharers.sharers.Given as goal

abbrev pub invariant-loop-r : goal.invariant-loop-r
invariant-loop-r l = (r : ℕ) → r < l.r → has l.set r ≡ shares_in l.clients l.n l.q r
