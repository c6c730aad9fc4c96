use Rattle.std.proofs.Common.{◌-◌, ◌≡◌, ◌<◌, ◌≤◌, ℕ, false}
use Rattle.table_sets.specs.Sets.{bit_of}
use Rattle.table_sets.specs.declared.limits.TheConstants.{MOST_CHUNKS}
use Rattle.table_sets.proofs.chunk_set.ChunkSet.least_from.Given as goal

abbrev pub invariant-loop-from : goal.invariant-loop-from
invariant-loop-from l = record {
  onward : l.c ≤ l.from;
  none : (x : ℕ) → l.c ≤ x → x < l.from → x < MOST_CHUNKS → bit_of l.self-inside.words x ≡ false;
}

abbrev pub decreases-loop-from : goal.decreases-loop-from
decreases-loop-from l = MOST_CHUNKS - l.from
