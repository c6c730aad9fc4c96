-- What bytes a field has.
use Rattle.std.specs.Prelude.{◌==◌, ◌&&◌, ◌||◌, ℕ, Bool, false, not, List, [], ◌∷◌}
use Rattle.std.specs.Char.{is_ascii_digit}
use Rattle.prepare_look.specs.declared.traits.Traits.{Traits}

-- a byte of `$`, or of `£` or `€` in UTF-8
abbrev pub is_money : ℕ → Bool
is_money b = (b == 36) || (b == 0xC2) || (b == 0xA3) || (b == 0xE2) || (b == 0x82) || (b == 0xAC)

abbrev pub is_percent : ℕ → Bool
is_percent b = b == 37

abbrev pub is_mark : ℕ → Bool
is_mark b = (b == 46) || (b == 44) || (b == 32) || (b == 45) || (b == 43)

abbrev pub is_other : ℕ → Bool
is_other b = not (is_ascii_digit b) && not (is_money b) && not (is_percent b) && not (is_mark b)

abbrev pub no_traits : Traits
no_traits = record { has_digit = false; has_money = false; has_percent = false; has_other = false }

abbrev pub traits_after : Traits → ℕ → Traits
traits_after t b = record {
  has_digit = t.has_digit || is_ascii_digit b;
  has_money = t.has_money || is_money b;
  has_percent = t.has_percent || is_percent b;
  has_other = t.has_other || is_other b;
}

unfoldable pub traits_from : Traits → List ℕ → Traits
traits_from t [] = t
traits_from t (b ∷ bytes) = traits_from (traits_after t b) bytes

abbrev pub traits_of : List ℕ → Traits
traits_of field = traits_from no_traits field
