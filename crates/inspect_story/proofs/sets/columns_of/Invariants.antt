use Rattle.std.proofs.Common.{◌≡◌, ◌<◌, ◌||◌, ℕ}
use Rattle.std.specs.List.{AllByRecursion}
use Rattle.table_sets.specs.Sets.{has}
use Rattle.inspect_story.proofs.sets.columns_of.Given as goal

abbrev pub invariant-loop-column : goal.invariant-loop-column
invariant-loop-column l = record {
  same : (x : ℕ) → (has l.set x || has l.column-iterator x) ≡ has l.list x;
  below : AllByRecursion (λ (x : ℕ). x < 16) l.column-iterator;
}
