-- How many digits stand behind the point at most.
use Rattle.std.specs.Prelude.{◌≡◌, ◌-◌, ◌+◌, ◌*◌, ◌^◌, ◌%◌, ◌==◌, ◌≤◌, ◌&&◌, ◌||◌, ℕ, Bool, true, false, not, nat_lt}
use Rattle.std.specs.Prelude.{List, [], ◌∷◌, length, take, drop, if◌then◌else◌}
use Rattle.std.specs.List.{list_any}
use Rattle.prepare_numbers.specs.Plain.{is_nonzero, spread, written}
use Rattle.prepare_numbers.specs.Spells.{is_minus, mantissa, number, spells}
use Rattle.prepare_numbers.specs.Values.{IsSame, Value, digits_in, value_of}
use Rattle.prepare_numbers.specs.declared.form.Form.{Form}
use Rattle.prepare_numbers.specs.declared.limit.Fit.{Fit}
use Rattle.prepare_numbers.specs.declared.limit.Fit.TheVariants as fit
use Rattle.prepare_numbers.specs.declared.limit.Limit.{Limit}

-- all but the last so many digits, and those
abbrev pub kept : ℕ → List ℕ → List ℕ
kept k digits = take (length digits - k) digits

abbrev pub dropped : ℕ → List ℕ → List ℕ
dropped k digits = drop (length digits - k) digits

-- HALF TO EVEN: one more than a whole number, where the rest behind it is over a half of m, or a half behind an odd one
abbrev pub takes_more : ℕ → ℕ → ℕ → Bool
takes_more whole rest m = nat_lt m (2 * rest) || ((2 * rest == m) && (whole % 2 == 1))

-- digits with one more: whether it runs over their front, and what they are then
pub record Sum : Type 0 where
  pub over : Bool
  pub digits : List ℕ

abbrev pub before : ℕ → Sum → Sum
before d rest = if rest.over then (if d == 57 then record { over = true; digits = 48 ∷ rest.digits }
    else record { over = false; digits = (d + 1) ∷ rest.digits }) else record { over = false; digits = d ∷ rest.digits }

unfoldable pub one_more : List ℕ → Sum
one_more [] = record { over = true; digits = [] }
one_more (d ∷ digits) = before d (one_more digits)

-- digits without the last so many, rounded by these
abbrev pub rounded : ℕ → List ℕ → List ℕ
rounded k digits = if takes_more (number (kept k digits)) (number (dropped k digits)) (10 ^ k)
    then (one_more (kept k digits)).digits else kept k digits

-- so many digits stand past the limit
abbrev pub excess : Limit → ℕ → ℕ
excess limit places = places - limit.places

-- HOW DIGITS FIT THE LIMIT, so many of which stand behind the point: no digit but zeros is past it, or they are rounded
-- where that is asked for
abbrev pub fit_of : Limit → ℕ → List ℕ → Fit
fit_of limit places digits = if list_any is_nonzero (dropped (excess limit places) digits)
    then (if limit.rounds then fit.Rounded else fit.TooLong) else fit.Whole

-- a number of these digits, so many of which stand behind the point, written with no digit past the limit
abbrev pub bounded : Limit → Bool → ℕ → List ℕ → List ℕ
bounded limit is_minus places digits =
    written is_minus (places - excess limit places) (rounded (excess limit places) digits)

-- the same of digits times ten so often and a tenth so often
abbrev pub moved_fit : Limit → ℕ → ℕ → List ℕ → Fit
moved_fit limit up down digits = fit_of limit (down - up) (spread up down digits)

abbrev pub moved_within : Limit → Bool → ℕ → ℕ → List ℕ → List ℕ
moved_within limit is_minus up down digits = bounded limit is_minus (down - up) (spread up down digits)

-- what is put behind a text: nothing where a number is too long
abbrev pub unless_long : Fit → List ℕ → List ℕ
unless_long fit.Whole text = text
unless_long fit.Rounded text = text
unless_long fit.TooLong text = []

-- HOW THE NUMBER OF A FIELD FITS THE LIMIT, AND WHAT IS WRITTEN OF IT
abbrev pub plain_fit : Limit → ℕ → List ℕ → Fit
plain_fit limit mark field =
    moved_fit limit (value_of mark field).up (value_of mark field).down (digits_in (mantissa field))

abbrev pub plain_within : Limit → ℕ → List ℕ → List ℕ
plain_within limit mark field =
    moved_within limit (is_minus field) (value_of mark field).up (value_of mark field).down (digits_in (mantissa field))

-- a number that fits keeps its value
abbrev pub KeepsWithin : Type 0
KeepsWithin = (limit : Limit) (form : Form) (field : List ℕ) → spells form field ≡ true
    → plain_fit limit form.mark field ≡ fit.Whole
    → IsSame (value_of form.mark field) (value_of 46 (plain_within limit form.mark field))

-- the units of a in the least place of both, and what a unit of the last place of b is there
abbrev pub scaled : Value → Value → ℕ
scaled a b = a.units * 10 ^ (a.up + b.down)

abbrev pub last_place : Value → Value → ℕ
last_place a b = 10 ^ (b.up + a.down)

-- b IS THE NEAREST TO a of its last place, and even where two are: the error is at most a half of a unit there, and the
-- sign stays, but for a zero, which has none
pub record IsNearest (a b : Value) : Type 0 where
  pub sign : b.below ≡ (a.below && not (b.units == 0))
  pub low : 2 * scaled a b ≤ 2 * scaled b a + last_place a b
  pub high : 2 * scaled b a ≤ 2 * scaled a b + last_place a b
  pub low_even : 2 * scaled a b ≡ 2 * scaled b a + last_place a b → b.units % 2 ≡ 0
  pub high_even : 2 * scaled b a ≡ 2 * scaled a b + last_place a b → b.units % 2 ≡ 0

-- a number that is written within the limit is the nearest of that many places, if the field has more
abbrev pub RoundsNearest : Type 0
RoundsNearest = (limit : Limit) (form : Form) (field : List ℕ) → spells form field ≡ true
    → IsNearest (value_of form.mark field) (value_of 46 (plain_within limit form.mark field))

-- it has no digit past the limit
abbrev pub StaysWithin : Type 0
StaysWithin = (limit : Limit) (form : Form) (field : List ℕ) → spells form field ≡ true
    → (value_of 46 (plain_within limit form.mark field)).down ≤ limit.places
