use Rattle.std.proofs.Common.{◌≡◌, ◌<◌, ℕ, length}
use Rattle.scan_story.specs.Counting.{has}
use Rattle.chunk_interest.specs.Clients.{client_at}
use Rattle.chunk_interest.specs.Marked.{row_at}
use Rattle.chunk_interest.proofs.marks.needing_each.Given as goal

abbrev pub invariant-loop-c : goal.invariant-loop-c
invariant-loop-c l = record {
  size : length l.rows.items ≡ l.c;
  each : (c q : ℕ) → c < l.c → has (row_at l.rows.items c) q ≡ has (client_at l.clients q).remaining c;
}
