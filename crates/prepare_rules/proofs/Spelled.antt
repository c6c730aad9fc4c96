-- A number that is written is what the rules make of the field that spells it.
use Rattle.std.proofs.Common.{◌≡◌, ℕ, Bool, List, Option, Some, None, refl, ap, ◌∙◌}
use Rattle.prepare_numbers.specs.Rounding.{plain_fit, plain_within, unless_long}
use Rattle.prepare_numbers.specs.Spells.{is_minus, mantissa}
use Rattle.prepare_numbers.specs.Values.{HasParts, digits_in, value_of}
use Rattle.prepare_numbers.specs.declared.form.Form.{Form}
use Rattle.prepare_numbers.specs.declared.limit.Fit.{Fit}
use Rattle.prepare_numbers.specs.declared.limit.Fit.TheVariants as fit
use Rattle.prepare_numbers.specs.declared.limit.Limit.{Limit}
use Rattle.prepare_numbers.specs.declared.spelling.Spelling.{Spelling}
use Rattle.prepare_numbers.proofs.Nearest.{keeps-within, rounds-nearest, stays-within}
use Rattle.prepare_numbers.proofs.Worth.{keeps-value}
use Rattle.prepare_rules.specs.Numbers.{IsFitted, KeepsWorth, RoundsNearest, fit_by, text_by}

fit-same : (limit : Option Limit) (c d e f : ℕ) (xs ys : List ℕ) → c ≡ d → e ≡ f → xs ≡ ys → fit_by limit c e xs ≡ fit_by limit d f ys
fit-same limit c d e f xs ys q r s = rw (q, r, s) refl

text-same : (limit : Option Limit) (a b : Bool) (c d e f : ℕ) (xs ys : List ℕ) → a ≡ b → c ≡ d → e ≡ f → xs ≡ ys → text_by limit a c e xs ≡ text_by limit b d f ys
text-same limit a b c d e f xs ys p q r s = rw (p, q, r, s) refl

-- a number that is made of the parts of a field
pub fitted : (limit : Option Limit) (form : Form) (field : List ℕ) (s : Spelling) (found : Fit) (text : List ℕ) → HasParts form field s
    → found ≡ fit_by limit s.up s.down (digits_in s.mantissa.now) → text ≡ text_by limit s.is_minus s.up s.down (digits_in s.mantissa.now)
    → IsFitted limit form field (Some found) text
fitted limit form field s found text h is made =
    let v = value_of form.mark field in
    let ds : digits_in s.mantissa.now ≡ digits_in (mantissa field) = ap digits_in h.mantissa in (
      h.spells,
      is ∙ fit-same limit s.up v.up s.down v.down (digits_in s.mantissa.now) (digits_in (mantissa field)) h.up h.down ds,
      made ∙ text-same limit s.is_minus (is_minus field) s.up v.up s.down v.down (digits_in s.mantissa.now) (digits_in (mantissa field)) h.minus h.up h.down ds,
    )

-- ---- what is written has the value of the field, or is near it

whole-text : (f : Fit) (text : List ℕ) → f ≡ fit.Whole → unless_long f text ≡ text
whole-text fit.Whole text e = refl
whole-text fit.Rounded text e = cc
whole-text fit.TooLong text e = cc

rounded-text : (f : Fit) (text : List ℕ) → f ≡ fit.Rounded → unless_long f text ≡ text
rounded-text fit.Whole text e = cc
rounded-text fit.Rounded text e = refl
rounded-text fit.TooLong text e = cc

pub keeps-worth : KeepsWorth
keeps-worth None form field h fits = rw h (keeps-value form field h)
keeps-worth (Some limit) form field h fits = rw (h, whole-text (plain_fit limit form.mark field) (plain_within limit form.mark field) fits) (keeps-within limit form field h fits)

pub rounded-near : RoundsNearest
rounded-near limit form field h fits =
    rw (h, rounded-text (plain_fit limit form.mark field) (plain_within limit form.mark field) fits) (rounds-nearest limit form field h, stays-within limit form field h)
