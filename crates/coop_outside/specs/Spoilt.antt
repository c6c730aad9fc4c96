-- What a depot that spoils one word of one piece gives in place of the piece's bytes.
use Rattle.std.specs.Prelude.{◌+◌, ◌*◌, ◌==◌, ◌&&◌, ℕ, nat_le, List, ◌++◌, length, take, drop, if◌then◌else◌}
use Rattle.std.specs.Int.{to_le_bytes}
use Rattle.std.specs.Int.{w64}

-- the bytes with a value in place of a word, the least byte first
abbrev pub with_word : List ℕ → ℕ → ℕ → List ℕ
with_word bytes word value = take (8 * word) bytes ++ to_le_bytes w64 value ++ drop (8 * word + 8) bytes

-- the bytes of a piece, spoilt where it is the spoilt piece and has so many words
abbrev pub spoilt_bytes : ℕ → ℕ → ℕ → ℕ → List ℕ → List ℕ
spoilt_bytes spoilt word value piece bytes = if piece == spoilt && nat_le (8 * word + 8) (length bytes)
    then with_word bytes word value else bytes
