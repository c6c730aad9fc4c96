use Rattle.std.proofs.Common.{◌≡◌, ◌<◌, ◌+◌, ◌*◌, ℕ}
use Rattle.std.specs.Int.{bit_at}
use Rattle.piece_format.specs.Bytes.{word_of}
use Rattle.piece_format.proofs.sound.none_hidden.Given as goal

abbrev pub invariant-loop-eight : goal.invariant-loop-eight
invariant-loop-eight l = (i lane : ℕ) → i < l.eight → lane < 8 → l.hidden ≡ 0 → bit_at l.nulls (8 * i + lane) ≡ 1 → word_of l.bytes (l.from + 8 * i + lane) ≡ 0
