use Rattle.std.proofs.Common.{◌≡◌, ◌≤◌, ◌||◌, ℕ}
use Rattle.scan_story.specs.Counting.{has}
use Rattle.table_sets.specs.Sets.{Rising}
use Rattle.help_book.proofs.settings.column_set.Given as goal

abbrev pub invariant-loop-column : goal.invariant-loop-column
invariant-loop-column l = record {
  same : (x : ℕ) → (has l.set x || has l.column-iterator x) ≡ has l.columns x;
  rising : Rising l.next l.column-iterator l.end → Rising 0 l.columns l.end;
  within : l.next ≤ l.end;
}
