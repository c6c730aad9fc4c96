use Rattle.std.proofs.Common.{◌*◌, ◌≡◌, ◌≤◌, length}
use Rattle.table_sets.specs.Sets.{bit_of, numbers_below}
use Rattle.table_sets.proofs.words.count_members.Given as goal

abbrev pub invariant-loop-word : goal.invariant-loop-word
invariant-loop-word l = record {
  so_far : l.count ≡ length (numbers_below (bit_of l.words) (64 * l.word-index));
  within : l.count ≤ 64 * l.word-index;
}
