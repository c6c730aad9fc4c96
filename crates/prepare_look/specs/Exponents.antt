-- Numbers with an exponent: perhaps a minus, digits, perhaps a point and places, the letter, perhaps a sign, digits.
use Rattle.std.specs.Prelude.{◌==◌, ◌+◌, ◌&&◌, ◌||◌, ℕ, Bool, true, false, nat_le}
use Rattle.std.specs.Prelude.{List, [], ◌∷◌, None, if◌then◌else◌}
use Rattle.std.specs.Char.{is_ascii_digit}
use Rattle.prepare_look.specs.Shapes.{shape_of}
use Rattle.prepare_look.specs.declared.exponent.Power.{Power}
use Rattle.prepare_look.specs.declared.exponent.Power.TheVariants as p
use Rattle.prepare_look.specs.declared.exponent.TheConstants.{NEAR_PLACES, NEAR_POWER}
use Rattle.prepare_numbers.specs.Spells.{mantissa, spells}
use Rattle.prepare_numbers.specs.Values.{value_of}
use Rattle.prepare_numbers.specs.declared.form.Form.{Form}

abbrev pub after_digit : Power → Power
after_digit p.Begin = p.Whole
after_digit p.Minus = p.Whole
after_digit p.Whole = p.Whole
after_digit p.Point = p.Places
after_digit p.Places = p.Places
after_digit p.Plain = p.Wrong
after_digit p.Pointed = p.Digits
after_digit p.Sign = p.Digits
after_digit p.Digits = p.Digits
after_digit p.Wrong = p.Wrong

abbrev pub after_letter : Power → Power
after_letter p.Whole = p.Plain
after_letter p.Places = p.Pointed
after_letter _ = p.Wrong

abbrev pub after_sign : Power → Bool → Power
after_sign p.Plain is_minus = p.Sign
after_sign p.Pointed is_minus = p.Sign
after_sign p.Begin is_minus = if is_minus then p.Minus else p.Wrong
after_sign _ is_minus = p.Wrong

abbrev pub after_point : Power → Power
after_point p.Whole = p.Point
after_point _ = p.Wrong

abbrev pub power_after : Power → ℕ → Power
power_after s b =
    if is_ascii_digit b then after_digit s else if b == 46 then after_point s
    else if (b == 101) || (b == 69) then after_letter s
    else if (b == 45) || (b == 43) then after_sign s (b == 45) else p.Wrong

abbrev pub ends_so : Power → Bool
ends_so p.Digits = true
ends_so _ = false

unfoldable pub power_from : Power → List ℕ → Bool
power_from s [] = ends_so s
power_from s (b ∷ bytes) = power_from (power_after s b) bytes

-- a number with an exponent, whose mantissa has a point or whose exponent has a sign
abbrev pub has_exponent : List ℕ → Bool
has_exponent field = power_from p.Begin field

-- numbers with a decimal point and perhaps a power of ten
abbrev pub with_powers : Form
with_powers = record { mark = 46; parts = None; exponents = true }

-- so many places hold the number, written out, but for zeros at the end of its mantissa
abbrev pub fits_places : List ℕ → Bool
fits_places field =
    nat_le (value_of 46 field).down ((value_of 46 field).up + (NEAR_PLACES + (shape_of (mantissa field)).zeros))

-- THE NUMBER IS NEAR: its power of ten is no more than this, and so many places hold it
abbrev pub is_near : List ℕ → Bool
is_near field = spells with_powers field && nat_le (value_of 46 field).up NEAR_POWER && fits_places field
