use Rattle.std.proofs.Common.{◌≡◌, ◌<◌, ℕ, length, get_or, bit_or}
use Rattle.chunk_interest.proofs.query_set.QuerySet.either.Given as goal

abbrev pub invariant-loop-i : goal.invariant-loop-i
invariant-loop-i l = record {
  size : length l.words ≡ 5;
  done : (j : ℕ) → j < l.i → get_or l.words j 0 ≡ bit_or (get_or l.self-inside.words j 0) (get_or l.other-inside.words j 0);
}
