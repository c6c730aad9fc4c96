-- How the characters of a text are written, by its bytes.
use Rattle.std.specs.Prelude.{◌≡◌, ◌==◌, ◌&&◌, ◌||◌, ℕ, Bool, true, false, not, nat_le, List, ◌∷◌}
use Rattle.std.specs.List.{list_any}
use Rattle.std.specs.Str.{IsUtf8}
use Rattle.prepare_decode.specs.declared.encoding.Encoding.{Encoding}
use Rattle.prepare_decode.specs.declared.encoding.Encoding.TheVariants as e

-- the text begins with a byte order mark of UTF-16
abbrev pub has_wide_mark : List ℕ → Bool
has_wide_mark (a ∷ b ∷ rest) = ((a == 0xFF) && (b == 0xFE)) || ((a == 0xFE) && (b == 0xFF))
has_wide_mark _ = false

-- a byte that is a control in Latin-1, and a character in Windows-1252 but for five
abbrev pub is_high : ℕ → Bool
is_high b = nat_le 0x80 b && nat_le b 0x9F

-- one of those five
abbrev pub is_unset : ℕ → Bool
is_unset b = (b == 0x81) || (b == 0x8D) || (b == 0x8F) || (b == 0x90) || (b == 0x9D)

abbrev pub is_windows : List ℕ → Bool
is_windows text = not (list_any is_unset text) && list_any is_high text

-- HOW A TEXT IS WRITTEN
abbrev pub IsEncoded : List ℕ → Encoding → Type 0
IsEncoded text e.Utf16 = has_wide_mark text ≡ true
IsEncoded text e.Utf8 = (has_wide_mark text ≡ false) × IsUtf8 text
IsEncoded text e.Windows1252 = (has_wide_mark text ≡ false) × ¬ (IsUtf8 text) × (is_windows text ≡ true)
IsEncoded text e.Latin1 = (has_wide_mark text ≡ false) × ¬ (IsUtf8 text) × (is_windows text ≡ false)
