use Rattle.std.proofs.Common.{◌*◌, ◌≡◌, ◌≤◌, length}
use Rattle.table_sets.specs.Sets.{bit_of, numbers_below}
use Rattle.chunk_interest.proofs.Bits.{words_of_both}
use Rattle.chunk_interest.proofs.query_set.QuerySet.common.Given as goal

abbrev pub invariant-loop-i : goal.invariant-loop-i
invariant-loop-i l = record {
  so_far : l.count ≡ length (numbers_below (bit_of (words_of_both l.self-inside.words l.other-inside.words)) (64 * l.i));
  within : l.count ≤ 64 * l.i;
}
