use Rattle.std.proofs.Common.{◌*◌, ◌≡◌, ◌≤◌, length}
use Rattle.table_sets.specs.Sets.{bit_of, numbers_below}
use Rattle.chunk_interest.proofs.query_set.QuerySet.size.Given as goal

abbrev pub invariant-loop-i : goal.invariant-loop-i
invariant-loop-i l = record {
  so_far : l.count ≡ length (numbers_below (bit_of l.self-inside.words) (64 * l.i));
  within : l.count ≤ 64 * l.i;
}
