use Rattle.std.proofs.Common.{◌≡◌, ◌≤◌, ◌||◌, ℕ}
use Rattle.scan_story.specs.Counting.{has}
use Rattle.table_sets.specs.Sets.{Rising}
use Rattle.help_book.proofs.settings.chunk_set.Given as goal

abbrev pub invariant-loop-chunk : goal.invariant-loop-chunk
invariant-loop-chunk l = record {
  same : (x : ℕ) → (has l.set x || has l.chunk-iterator x) ≡ has l.chunks x;
  rising : Rising l.next l.chunk-iterator l.end → Rising 0 l.chunks l.end;
  within : l.next ≤ l.end;
}
