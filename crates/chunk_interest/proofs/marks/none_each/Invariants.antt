use Rattle.std.proofs.Common.{◌≡◌, ◌<◌, ℕ, [], length}
use Rattle.chunk_interest.specs.Marked.{row_at}
use Rattle.chunk_interest.proofs.marks.none_each.Given as goal

abbrev pub invariant-loop-c : goal.invariant-loop-c
invariant-loop-c l = record {
  size : length l.rows.items ≡ l._c;
  each : (c : ℕ) → c < l._c → row_at l.rows.items c ≡ [];
}
