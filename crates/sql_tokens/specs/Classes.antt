-- The classes of bytes.
use Rattle.std.specs.Prelude.{ℕ, Bool, not, ◌||◌, ◌==◌}
use Rattle.std.specs.Char.{is_ascii_digit, is_ascii_alphabetic, is_ascii_alphanumeric}
use Rattle.sql_tokens.specs.declared.class.Class.{Class}
use Rattle.sql_tokens.specs.declared.class.Class.TheVariants.{White, Letter, Word, Digit, Line}

abbrev pub is_in : Class → ℕ → Bool
-- space, tab, LF and CR
is_in White b = b == 32 || (b == 9 || (b == 10 || b == 13))
is_in Letter b = is_ascii_alphabetic b || b == 95
is_in Word b = is_ascii_alphanumeric b || b == 95
is_in Digit b = is_ascii_digit b
-- all but LF
is_in Line b = not (b == 10)
