use Rattle.std.proofs.Common.{◌<◌, ◌≤◌, ◌+◌, ◌*◌, ℕ, slice_index}
use Rattle.piece_format.specs.Bytes.{word_of}
use Rattle.piece_format.specs.Checking.{IsClear, limit_of}
use Rattle.piece_format.proofs.sound.group_is_sound.Given as goal

abbrev pub invariant-loop-row : goal.invariant-loop-row
invariant-loop-row l = record {
  masks : (row : ℕ) → row < l.row → word_of l.bytes (row * (l.columns + 1)) ≤ slice_index l.masks 0;
  values : (lane : ℕ) → lane < 4 → IsClear l.found lane → (row : ℕ) → row < l.row
      → word_of l.bytes (row * (l.columns + 1) + 1 + (l.first + lane)) ≤ limit_of (word_of l.bytes (row * (l.columns + 1))) (l.first + lane) (slice_index l.tops lane);
}
