use Rattle.std.proofs.Common.{◌≡◌, ◌<◌, ◌||◌, ℕ}
use Rattle.std.specs.List.{AllByRecursion}
use Rattle.table_sets.specs.Sets.{has}
use Rattle.inspect_story.proofs.sets.chunks_of.Given as goal

abbrev pub invariant-loop-chunk : goal.invariant-loop-chunk
invariant-loop-chunk l = record {
  same : (x : ℕ) → (has l.set x || has l.chunk-iterator x) ≡ has l.list x;
  below : AllByRecursion (λ (x : ℕ). x < 1024) l.chunk-iterator;
}
