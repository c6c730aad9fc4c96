use Rattle.std.proofs.Common.{◌<◌, ◌≤◌, ◌+◌, ◌*◌, ◌/◌, ◌%◌, ℕ}
use Rattle.piece_format.specs.Bytes.{word_of}
use Rattle.piece_format.specs.Checking.{limit_of}
use Rattle.piece_format.proofs.sound.runs_are_sound.Given as goal

abbrev pub invariant-loop-k : goal.invariant-loop-k
invariant-loop-k l = (row : ℕ) → row < 64 * l.k → row < l.rows / 8 * 8 → word_of l.bytes row ≤ limit_of (word_of l.bytes (l.rows + row / 64)) (row % 64) l.top
