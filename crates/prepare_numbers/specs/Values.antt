-- What a field is worth.
use Rattle.std.specs.Prelude.{◌≡◌, ◌+◌, ◌*◌, ◌^◌, ◌==◌, ◌&&◌, ⊤, ℕ, Bool, true, false, not, if◌then◌else◌}
use Rattle.std.specs.Prelude.{List, [], ◌∷◌, length, Option, Some, None}
use Rattle.std.specs.Char.{is_ascii_digit}
use Rattle.prepare_numbers.specs.Spells.{is_minus, is_power, mantissa, number, power, spells, unsigned}
use Rattle.prepare_numbers.specs.declared.form.Form.{Form}
use Rattle.prepare_numbers.specs.declared.spelling.Shift.{Shift}
use Rattle.prepare_numbers.specs.declared.spelling.Spelling.{Spelling}

abbrev pub digits_in : List ℕ → List ℕ
digits_in [] = []
digits_in (b ∷ bytes) = if is_ascii_digit b then b ∷ digits_in bytes else digits_in bytes

-- all bytes are digits
abbrev pub AreDigits : List ℕ → Type 0
AreDigits [] = ⊤
AreDigits (d ∷ ds) = (is_ascii_digit d ≡ true) × AreDigits ds

abbrev pub behind : ℕ → List ℕ → List ℕ
behind mark [] = []
behind mark (b ∷ bytes) = if b == mark then bytes else behind mark bytes

-- how many digits stand behind the mark
abbrev pub places_in : ℕ → List ℕ → ℕ
places_in mark bytes = length (digits_in (behind mark bytes))

-- the power of ten, where it isn't below zero, and where it is, without its minus
abbrev pub raised : Option (List ℕ) → ℕ
raised None = 0
raised (Some power) = if is_minus power then 0 else number (unsigned power)

abbrev pub lowered : Option (List ℕ) → ℕ
lowered None = 0
lowered (Some power) = if is_minus power then number (unsigned power) else 0

-- a number: its digits as a whole number, times ten so often, and a tenth of it so often; and whether it is below zero
pub record Value : Type 0 where
  pub below : Bool
  pub units : ℕ
  pub up : ℕ
  pub down : ℕ

-- THE VALUE OF A NUMBER with this decimal mark
abbrev pub value_of : ℕ → List ℕ → Value
value_of mark field = record {
  below = is_minus field && not (number (digits_in (mantissa field)) == 0);
  units = number (digits_in (mantissa field));
  up = raised (power field);
  down = places_in mark (mantissa field) + lowered (power field);
}

-- they are one number: both multiplied by ten so often that they are whole
abbrev pub IsSame : Value → Value → Type 0
IsSame a b = (a.below ≡ b.below) × (a.units * 10 ^ (a.up + b.down) ≡ b.units * 10 ^ (b.up + a.down))

-- the spelling has the parts of the field
pub record HasParts (form : Form) (field : List ℕ) (s : Spelling) : Type 0 where
  pub spells : spells form field ≡ true
  pub mantissa : s.mantissa.now ≡ mantissa field
  pub minus : s.is_minus ≡ is_minus field
  pub up : s.up ≡ (value_of form.mark field).up
  pub down : s.down ≡ (value_of form.mark field).down

-- a power of ten shifts so, where there may be one
abbrev pub IsShifted : Bool → Option (List ℕ) → Option Shift → Type 0
IsShifted exponents power None = is_power exponents power ≡ false
IsShifted exponents power (Some s) = (is_power exponents power ≡ true)
    × (s.up ≡ raised power) × (s.down ≡ lowered power)

abbrev pub IsSpelled : Form → List ℕ → Option Spelling → Type 0
IsSpelled form field None = spells form field ≡ false
IsSpelled form field (Some s) = HasParts form field s
