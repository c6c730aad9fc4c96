use Rattle.std.proofs.Common.{◌<◌, ◌≤◌, ◌+◌, ◌*◌, ℕ}
use Rattle.piece_format.specs.Bytes.{word_of}
use Rattle.piece_format.specs.Checking.{IsClear}
use Rattle.piece_format.proofs.sound.none_above.Given as goal

abbrev pub invariant-loop-eight : goal.invariant-loop-eight
invariant-loop-eight l = (lane : ℕ) → lane < 8 → IsClear l.found lane → (i : ℕ) → i < l.eight → word_of l.bytes (l.from + 8 * i + lane) ≤ l.top
