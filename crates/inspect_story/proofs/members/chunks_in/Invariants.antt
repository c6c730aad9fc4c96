use Rattle.std.proofs.Common.{◌≡◌}
use Rattle.table_sets.specs.Sets.{has, numbers_below}
use Rattle.inspect_story.proofs.members.chunks_in.Given as goal

abbrev pub invariant-loop-chunk : goal.invariant-loop-chunk
invariant-loop-chunk l = l.list ≡ numbers_below (has l.set) l.chunk
