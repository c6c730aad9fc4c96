-- What becomes of a field of numbers.
use Rattle.std.specs.Prelude.{◌≡◌, ◌≤◌, ℕ, Bool, true, false, List, Option, Some, None, if◌then◌else◌}
use Rattle.prepare_numbers.specs.Plain.{moved}
use Rattle.prepare_numbers.specs.Rounding.{IsNearest, moved_fit, moved_within, unless_long}
use Rattle.prepare_numbers.specs.Spells.{is_minus, mantissa, spells}
use Rattle.prepare_numbers.specs.Values.{IsSame, digits_in, value_of}
use Rattle.prepare_numbers.specs.declared.form.Form.{Form}
use Rattle.prepare_numbers.specs.declared.limit.Fit.{Fit}
use Rattle.prepare_numbers.specs.declared.limit.Fit.TheVariants as fit
use Rattle.prepare_numbers.specs.declared.limit.Limit.{Limit}
use Rattle.prepare_rules.specs.declared.rules.Mark.{Mark}
use Rattle.prepare_rules.specs.declared.rules.Mark.TheVariants.{Point, Comma}
use Rattle.prepare_rules.specs.declared.rules.Rules.{Rules}

-- the byte of a decimal mark
abbrev pub mark_byte : Mark → ℕ
mark_byte Point = 46
mark_byte Comma = 44

-- how the numbers are spelled
abbrev pub form_of : Rules → Form
form_of rules = record { mark = mark_byte rules.mark; parts = rules.parts; exponents = rules.exponents }

-- how a number of these digits, times ten so often and a tenth so often, fits the limit, if there is one
abbrev pub fit_by : Option Limit → ℕ → ℕ → List ℕ → Fit
fit_by None up down digits = fit.Whole
fit_by (Some limit) up down digits = moved_fit limit up down digits

-- and how it is written
abbrev pub text_by : Option Limit → Bool → ℕ → ℕ → List ℕ → List ℕ
text_by None is_minus up down digits = moved is_minus up down digits
text_by (Some limit) is_minus up down digits =
    unless_long (moved_fit limit up down digits) (moved_within limit is_minus up down digits)

-- HOW THE NUMBER OF A FIELD FITS THE LIMIT, AND HOW IT IS WRITTEN: not at all where it is too long
abbrev pub number_fit : Option Limit → ℕ → List ℕ → Fit
number_fit limit mark field =
    fit_by limit (value_of mark field).up (value_of mark field).down (digits_in (mantissa field))

abbrev pub number_text : Option Limit → ℕ → List ℕ → List ℕ
number_text limit mark field =
    text_by limit (is_minus field) (value_of mark field).up (value_of mark field).down (digits_in (mantissa field))

-- WHAT BECOMES OF A FIELD OF NUMBERS: one that spells none is as it was
abbrev pub number_made : Option Limit → Form → List ℕ → List ℕ
number_made limit form field = if spells form field then number_text limit form.mark field else field

-- no number that fits changes its value: what is written is worth with a point what the field that was read is with its
-- mark. Without a limit each number fits
abbrev pub KeepsWorth : Type 0
KeepsWorth = (limit : Option Limit) (form : Form) (field : List ℕ) → spells form field ≡ true
    → number_fit limit form.mark field ≡ fit.Whole
    → IsSame (value_of form.mark field) (value_of 46 (number_made limit form field))

-- a number that is rounded is the nearest one of its last place, and has no digit past the limit
abbrev pub RoundsNearest : Type 0
RoundsNearest = (limit : Limit) (form : Form) (field : List ℕ) → spells form field ≡ true
    → number_fit (Some limit) form.mark field ≡ fit.Rounded
    → IsNearest (value_of form.mark field) (value_of 46 (number_made (Some limit) form field))
    × ((value_of 46 (number_made (Some limit) form field)).down ≤ limit.places)

-- a field that spells no number, or one that fits so and is written so
abbrev pub IsFitted : Option Limit → Form → List ℕ → Option Fit → List ℕ → Type 0
IsFitted limit form field None text = spells form field ≡ false
IsFitted limit form field (Some fit) text = (spells form field ≡ true)
    × (fit ≡ number_fit limit form.mark field) × (text ≡ number_text limit form.mark field)
