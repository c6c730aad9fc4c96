-- The text of bytes under an encoding.
use Rattle.std.specs.Prelude.{◌≡◌, ◌+◌, ◌-◌, ◌*◌, ◌/◌, ◌%◌, ◌==◌, ◌&&◌, ◌||◌, ℕ, zero, suc, Bool, false, nat_lt}
use Rattle.std.specs.Prelude.{List, [], ◌∷◌, ◌++◌, length, slice_index, take}
use Rattle.std.specs.Prelude.{Option, Some, None, unwrap_or, Result, Ok, Err}
use Rattle.std.specs.Prelude.{if◌then◌else◌}
use Rattle.std.specs.Char.{encode_utf8}
use Rattle.std.specs.Char.Utf16.{utf16_chars}
use Rattle.std.specs.Str.{IsUtf8, IsValidUpTo}
use Rattle.std.specs.declared.alloc.Global.{Global}
use Rattle.std.specs.declared.vec.Vec.{Vec}
use Rattle.prepare_decode.specs.Encodings.{is_high}
use Rattle.prepare_decode.specs.declared.decoding.BadBytes.{BadBytes}
use Rattle.prepare_decode.specs.declared.encoding.Encoding.{Encoding}
use Rattle.prepare_decode.specs.declared.encoding.Encoding.TheVariants as e
use Rattle.prepare_decode.specs.declared.single.Characters.{Characters}
use Rattle.prepare_decode.specs.declared.single.Characters.TheVariants as c
use Rattle.prepare_decode.specs.declared.single.TheConstants.{HIGH}

-- a text in UTF-8 up to the first byte that isn't of the encoding, and the place of that byte, if there is one
pub record Decoded : Type 0 where
  pub text : List ℕ
  pub bad : Option ℕ

abbrev pub decoded : List ℕ → Option ℕ → Decoded
decoded text bad = record { text = text; bad = bad }

-- a character and then the rest, or that none begins at this place
abbrev pub with_char : ℕ → Option ℕ → Decoded → Decoded
with_char at None rest = decoded [] (Some at)
with_char at (Some c) rest = decoded (encode_utf8 c ++ rest.text) rest.bad

-- ---- a byte a character

-- in Latin-1 a byte is its character
abbrev pub latin : ℕ → Option ℕ
latin b = Some b

abbrev pub or_unset : ℕ → Option ℕ
or_unset c = if c == 0 then None else Some c

-- in Windows-1252 too, but for those from 0x80 to 0x9F, of which five are none
abbrev pub windows : ℕ → Option ℕ
windows b = if is_high b then or_unset (slice_index HIGH (b - 0x80)) else Some b

abbrev pub characters : Characters → ℕ → Option ℕ
characters c.Latin b = latin b
characters c.Windows b = windows b

-- the text of bytes of which each is a character, from this place on
unfoldable pub single : (ℕ → Option ℕ) → ℕ → List ℕ → Decoded
single char_of at [] = decoded [] None
single char_of at (b ∷ bytes) = with_char at (char_of b) (single char_of (at + 1) bytes)

-- ---- UTF-16

-- the unit of two bytes, of which the first is the higher one, or the second
abbrev pub unit : Bool → ℕ → ℕ → ℕ
unit is_big a b = if is_big then a * 256 + b else b * 256 + a

-- so many units of a text
unfoldable pub units_below : Bool → List ℕ → ℕ → List ℕ
units_below is_big bytes zero = []
units_below is_big bytes (suc n) = units_below is_big bytes n
    ++ (unit is_big (slice_index bytes (n * 2)) (slice_index bytes (n * 2 + 1)) ∷ [])

-- the text begins with a byte order mark whose first byte is the higher one
abbrev pub is_big : List ℕ → Bool
is_big (a ∷ b ∷ bytes) = (a == 0xFE) && (b == 0xFF)
is_big _ = false

-- the text begins with either mark
abbrev pub is_marked : List ℕ → Bool
is_marked (a ∷ b ∷ bytes) = ((a == 0xFF) && (b == 0xFE)) || ((a == 0xFE) && (b == 0xFF))
is_marked _ = false

abbrev pub units_of : List ℕ → List ℕ
units_of bytes = units_below (is_big bytes) bytes (length bytes / 2)

-- half of a unit at the end, and its place
abbrev pub half_at : Bool → ℕ → Option ℕ
half_at is_half at = if is_half then Some at else None

-- how many bytes a character has
abbrev pub width : ℕ → ℕ
width c = if nat_lt c 0x10000 then 2 else 4

-- the text of characters from this place on, of which none stands for a surrogate without a partner
unfoldable pub wide : Bool → ℕ → List (Option ℕ) → Decoded
wide is_half at [] = decoded [] (half_at is_half at)
wide is_half at (c ∷ rest) = with_char at c (wide is_half (at + width (unwrap_or c 0)) rest)

-- its mark is a character of it; without one no byte is of the encoding
abbrev pub utf16 : List ℕ → Decoded
utf16 bytes = if is_marked bytes then wide (length bytes % 2 == 1) 0 (utf16_chars (units_of bytes))
    else decoded [] (Some 0)

-- ---- all

-- what a vector holds
abbrev pub listed : Result (Vec ℕ Global) BadBytes → Result (List ℕ) BadBytes
listed (Ok v) = Ok v.items
listed (Err bad) = Err bad

-- the text, or the first byte that isn't of the encoding and the text before it
abbrev pub Gives : Decoded → Result (List ℕ) BadBytes → Type 0
Gives d (Ok text) = (d.bad ≡ None) × (text ≡ d.text)
Gives d (Err bad) = (d.bad ≡ Some bad.at) × (bad.before.items ≡ d.text)

-- THE TEXT OF BYTES in UTF-8, or the first of them that isn't of the encoding
abbrev pub IsText : Encoding → List ℕ → Result (List ℕ) BadBytes → Type 0
IsText e.Utf8 bytes (Ok text) = IsUtf8 bytes × (text ≡ bytes)
IsText e.Utf8 bytes (Err bad) = IsValidUpTo bytes bad.at × (bad.before.items ≡ take bad.at bytes)
IsText e.Latin1 bytes found = Gives (single latin 0 bytes) found
IsText e.Windows1252 bytes found = Gives (single windows 0 bytes) found
IsText e.Utf16 bytes found = Gives (utf16 bytes) found
