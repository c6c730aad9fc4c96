use Rattle.std.proofs.Common.{◌≡◌, ◌<◌, ◌≤◌, ◌+◌, ℕ, length}
use Rattle.filter_zones.specs.Possible.{chunk_at}
use Rattle.filter_zones.specs.Ends.{ends_at, column_ends}
use Rattle.filter_zones.proofs.ends.EndMasks.of_chunks.Given as goal

abbrev pub invariant-loop-k : goal.invariant-loop-k
invariant-loop-k l = (l.k ≤ length l.chunks) × ((j : ℕ) → l.k + j < length l.chunks → ends_at l.masks j ≡ column_ends l.column l.value (chunk_at l.chunks (l.k + j)))

abbrev pub decreases-loop-k : goal.decreases-loop-k
decreases-loop-k l = l.k
