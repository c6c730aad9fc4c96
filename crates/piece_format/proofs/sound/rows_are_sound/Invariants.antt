use Rattle.std.proofs.Common.{◌<◌, ◌≤◌, ◌+◌, ◌*◌, ◌^◌, ℕ, slice_index}
use Rattle.piece_format.specs.Bytes.{word_of}
use Rattle.piece_format.specs.Checking.{limit_of}
use Rattle.piece_format.proofs.sound.rows_are_sound.Given as goal

abbrev pub invariant-loop-group : goal.invariant-loop-group
invariant-loop-group l = record {
  masks : 0 < l.group → (row : ℕ) → row < l.rows → word_of l.bytes (row * (l.columns + 1)) < 2 ^ l.columns;
  values : (row x : ℕ) → row < l.rows → x < 4 * l.group
      → word_of l.bytes (row * (l.columns + 1) + 1 + x) ≤ limit_of (word_of l.bytes (row * (l.columns + 1))) x (slice_index l.tops x);
}
