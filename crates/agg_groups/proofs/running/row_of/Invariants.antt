use Rattle.std.proofs.Common.{◌≡◌, ◌++◌, drop}
use Rattle.agg_groups.specs.Running.{all_shown}
use Rattle.agg_groups.proofs.running.row_of.Given as goal

abbrev pub invariant-loop-i : goal.invariant-loop-i
invariant-loop-i l = l.row.items ++ all_shown l.key (drop l.i l.items) (drop l.i l.values) ≡ all_shown l.key l.items l.values
