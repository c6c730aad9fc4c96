use Rattle.std.proofs.Common.{◌≡◌}
use Rattle.table_sets.specs.Sets.{has, numbers_below}
use Rattle.inspect_story.proofs.members.columns_in.Given as goal

abbrev pub invariant-loop-column : goal.invariant-loop-column
invariant-loop-column l = l.list ≡ numbers_below (has l.set) l.column
