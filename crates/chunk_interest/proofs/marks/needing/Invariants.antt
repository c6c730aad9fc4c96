use Rattle.std.proofs.Common.{◌≡◌, ◌<◌, ◌≤◌, ℕ, false}
use Rattle.scan_story.specs.Counting.{has}
use Rattle.chunk_interest.specs.Clients.{client_at}
use Rattle.chunk_interest.proofs.marks.needing.Given as goal

abbrev pub invariant-loop-q : goal.invariant-loop-q
invariant-loop-q l = record {
  done : (q : ℕ) → q < l.q → has l.set q ≡ has (client_at l.clients q).remaining l.c;
  rest : (q : ℕ) → l.q ≤ q → has l.set q ≡ false;
}
