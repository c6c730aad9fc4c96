-- The bytes of a token, and where a character ends.
use Rattle.std.specs.Prelude.{ℕ, ◌+◌, ◌&&◌, Bool, if◌then◌else◌, List, [], length, drop, min, nat_le, nat_lt}
use Rattle.std.specs.List.{prefix_len}
use Rattle.sql_text.specs.Words.{part}
use Rattle.sql_tokens.specs.declared.span.Span.{Span}

-- the bytes of the span, or none where the text ends before
abbrev pub bytes_at : List ℕ → Span → List ℕ
bytes_at text span = if nat_le span.from span.to && nat_le span.to (length text) then part text span else []

-- in UTF-8 the byte goes on with a character
abbrev pub continues : ℕ → Bool
continues b = nat_le 128 b && nat_lt b 192

-- THE END OF THE CHARACTER that begins at a byte of the text: up to three bytes behind the first go on with it
abbrev pub char_end : List ℕ → ℕ → ℕ
char_end bytes at = min (at + 1 + min 3 (prefix_len continues (drop (min (at + 1) (length bytes)) bytes)))
    (length bytes)
