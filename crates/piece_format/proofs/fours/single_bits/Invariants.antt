use Rattle.std.proofs.Common.{◌≡◌, ◌<◌, ◌^◌, ℕ, length, slice_index}
use Rattle.piece_format.proofs.fours.single_bits.Given as goal

abbrev pub invariant-loop-b : goal.invariant-loop-b
invariant-loop-b l = record {
  sixty_four : length l.bits ≡ 64;
  are : (b : ℕ) → b < l.b → slice_index l.bits b ≡ 2 ^ b;
}
