-- Numbers as coop_cli reads them.
use Rattle.std.specs.Prelude.{◌≡◌, ◌-◌, ◌+◌, ◌==◌, ◌&&◌, ℕ, Bool, true, not, if◌then◌else◌}
use Rattle.std.specs.Prelude.{List, [], ◌∷◌, ◌++◌, length, take, drop, replicate}
use Rattle.std.specs.List.{list_any}
use Rattle.prepare_numbers.specs.Spells.{is_minus, mantissa, spells}
use Rattle.prepare_numbers.specs.Values.{IsSame, Value, digits_in, value_of}
use Rattle.prepare_numbers.specs.declared.form.Form.{Form}

abbrev pub zeros : ℕ → List ℕ
zeros n = replicate n 48

-- digits without zeros in front, but for the last
abbrev pub stripped : List ℕ → List ℕ
stripped [] = []
stripped (d ∷ []) = d ∷ []
stripped (d ∷ e ∷ digits) = if d == 48 then stripped (e ∷ digits) else d ∷ e ∷ digits

-- digits of which so many stand behind a point
abbrev pub pointed : ℕ → List ℕ → List ℕ
pointed places digits = if places == 0 then stripped digits
    else stripped (take (length digits - places) digits) ++ (46 ∷ drop (length digits - places) digits)

abbrev pub is_nonzero : ℕ → Bool
is_nonzero d = not (d == 48)

-- a minus, but not before a zero
abbrev pub sign_of : Bool → List ℕ → List ℕ
sign_of is_minus digits = if is_minus && list_any is_nonzero digits then 45 ∷ [] else []

-- digits times ten so often and a tenth so often, written out: zeros in front, so that one stands before the point, and
-- those that a power of ten adds
abbrev pub spread : ℕ → ℕ → List ℕ → List ℕ
spread up down digits = zeros ((down - up) + 1) ++ (digits ++ zeros (up - down))

abbrev pub written : Bool → ℕ → List ℕ → List ℕ
written is_minus places digits = sign_of is_minus digits ++ pointed places digits

-- digits times ten so often and a tenth so often, as coop_cli reads them
abbrev pub moved : Bool → ℕ → ℕ → List ℕ → List ℕ
moved is_minus up down digits = written is_minus (down - up) (spread up down digits)

abbrev pub plain_by : Value → List ℕ → List ℕ
plain_by value field = moved (is_minus field) value.up value.down (digits_in (mantissa field))

-- THE NUMBER OF A FIELD AS coop_cli READS IT
abbrev pub plain : ℕ → List ℕ → List ℕ
plain mark field = plain_by (value_of mark field) field

-- no number changes its value
abbrev pub KeepsValue : Type 0
KeepsValue = (form : Form) (field : List ℕ) → spells form field ≡ true
    → IsSame (value_of form.mark field) (value_of 46 (plain form.mark field))
