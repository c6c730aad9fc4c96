use Rattle.std.proofs.Common.{◌≡◌, ◌<◌, ℕ, length}
use Rattle.scan_story.specs.Counting.{has}
use Rattle.chunk_interest.specs.Counts.{shares_in}
use Rattle.chunk_interest.specs.Marked.{row_at}
use Rattle.chunk_interest.proofs.sharers.sharers_each.Given as goal

abbrev pub invariant-loop-q : goal.invariant-loop-q
invariant-loop-q l = record {
  size : length l.rows.items ≡ l.q;
  each : (q r : ℕ) → q < l.q → r < 257 → has (row_at l.rows.items q) r ≡ shares_in l.clients l.n q r;
}
