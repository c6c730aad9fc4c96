use Rattle.std.proofs.Common.{◌≡◌, ℕ, ◌+◌, ◌<◌, ◌≤◌, ◌++◌, take, drop, length, get_or}
use Rattle.std.specs.Prelude.{count_ones}
use Rattle.agg_groups.specs.declared.running.Running.{Running}
use Rattle.agg_groups.specs.Running.{joins, runnings, HasRoom}
use Rattle.agg_groups.specs.Blocks.{chosen_in}
use Rattle.agg_groups.proofs.lanes.add_chosen.Given as goal

abbrev pub invariant-loop-i : goal.invariant-loop-i
invariant-loop-i l = record {
  value : take l.i l.values ++ joins (drop l.i l.items) (drop l.i l.values) (runnings (drop l.i l.items) (chosen_in l.block l.word)) ≡ joins l.items l.initial.values (runnings l.items (chosen_in l.block l.word));
  done : (k : ℕ) (d : Running) → k < l.i → HasRoom (l.rows + count_ones l.word) (get_or l.values k d);
  left : (k : ℕ) (d : Running) → l.i ≤ k → k < length l.values → HasRoom l.rows (get_or l.values k d);
}
