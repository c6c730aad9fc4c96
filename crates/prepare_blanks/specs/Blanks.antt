-- Bytes that end words and lines.
use Rattle.std.specs.Prelude.{◌==◌, ◌||◌, ℕ, Bool}

-- a space or a tab
abbrev pub is_blank : ℕ → Bool
is_blank b = (b == 32) || (b == 9)

-- a line feed or a carriage return
abbrev pub is_line_end : ℕ → Bool
is_line_end b = (b == 10) || (b == 13)
