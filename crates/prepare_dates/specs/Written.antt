-- Dates as YYYY-MM-DD.
use Rattle.std.specs.Prelude.{◌≡◌, ◌+◌, ◌/◌, ◌%◌, ℕ, List, [], ◌∷◌, ◌++◌, Some, unsigned_abs}
use Rattle.prepare_dates.specs.Days.{Numbers, date_in, parted, year_first}
use Rattle.prepare_dates.specs.declared.order.Order.{Order}

-- the digit of a number at the place that is worth so much
abbrev pub digit_at : ℕ → ℕ → ℕ
digit_at worth n = 48 + n / worth % 10

abbrev pub two_digits : ℕ → List ℕ
two_digits n = digit_at 10 n ∷ digit_at 1 n ∷ []

abbrev pub four_digits : ℕ → List ℕ
four_digits n = digit_at 1000 n ∷ digit_at 100 n ∷ digit_at 10 n ∷ digit_at 1 n ∷ []

-- A DATE AS YYYY-MM-DD
abbrev pub date_text : Numbers → List ℕ
date_text d = four_digits (unsigned_abs d.year) ++ (45 ∷ two_digits d.month ++ (45 ∷ two_digits d.day))

-- what has the form YYYY-MM-DD of a day is this date in either order, and is written as it stands
abbrev pub Stays : Type 0
Stays = (order : Order) (field : List ℕ) (d : Numbers) → parted year_first 45 field ≡ Some d
    → (date_in order field ≡ Some d) × (date_text d ≡ field)

-- what is written of a date that was read is that date, in either order
abbrev pub ReadsBack : Type 0
ReadsBack = (order other : Order) (field : List ℕ) (d : Numbers) → date_in order field ≡ Some d
    → date_in other (date_text d) ≡ Some d
