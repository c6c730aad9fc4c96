use Rattle.std.proofs.Common.{◌≡◌}
use Rattle.table_sets.specs.Sets.{has, numbers_below}
use Rattle.inspect_notes.proofs.members.members_of.Given as goal

abbrev pub invariant-loop-column : goal.invariant-loop-column
invariant-loop-column l = l.members.items ≡ numbers_below (has l.set) l.column
