use Rattle.std.proofs.Common.{◌≡◌, ℕ, ◌<◌, ◌≤◌, ◌++◌, take, drop, length, get_or}
use Rattle.agg_groups.specs.declared.running.Running.{Running}
use Rattle.agg_groups.specs.Running.{joins, HasRoom}
use Rattle.agg_groups.proofs.running.join_all.Given as goal

abbrev pub invariant-loop-i : goal.invariant-loop-i
invariant-loop-i l = record {
  value : take l.i l.values ++ joins (drop l.i l.items) (drop l.i l.values) (drop l.i l.others) ≡ joins l.items l.initial.values l.others;
  left : (k : ℕ) (d : Running) → l.i ≤ k → k < length l.values → HasRoom l.rows (get_or l.values k d);
}
