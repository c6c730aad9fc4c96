-- What becomes of a field of dates.
use Rattle.std.specs.Prelude.{◌≡◌, ℕ, List, Option, Some, None}
use Rattle.prepare_dates.specs.Days.{Numbers, date_in}
use Rattle.prepare_dates.specs.Written.{date_text}
use Rattle.prepare_dates.specs.declared.order.Order.{Order}

-- a date as YYYY-MM-DD, or the field that is none
abbrev pub date_or : List ℕ → Option Numbers → List ℕ
date_or field None = field
date_or field (Some d) = date_text d

-- WHAT BECOMES OF A FIELD OF DATES: one that is none is as it was
abbrev pub date_made : Order → List ℕ → List ℕ
date_made order field = date_or field (date_in order field)

-- a date that is written is the day that it was, in whatever order it is read again
abbrev pub KeepsDay : Type 0
KeepsDay = (order other : Order) (field : List ℕ) (d : Numbers) → date_in order field ≡ Some d
    → date_in other (date_made order field) ≡ Some d
