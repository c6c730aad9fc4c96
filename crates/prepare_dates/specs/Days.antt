-- Which fields are dates.
use Rattle.std.specs.Prelude.{◌==◌, ◌&&◌, ℕ, Bool, nat_le, ℤ, pos, List, [], ◌∷◌, length}
use Rattle.std.specs.Prelude.{Option, Some, None, if◌then◌else◌}
use Rattle.std.specs.Char.{is_ascii_digit}
use Rattle.std.specs.List.{list_all}
use Rattle.std.specs.Str.Parse.{digits_value}
use Rattle.jiff_core.specs.Calendar.{IsBetween, days_in_month}
use Rattle.jiff_core.specs.declared.civil.date.Date.{Date}
use Rattle.prepare_dates.specs.declared.order.Order.{Order}
use Rattle.prepare_dates.specs.declared.order.Order.TheVariants.{DayFirst, MonthFirst}

-- a date by its numbers
pub record Numbers : Type 0 where
  pub year : ℤ
  pub month : ℕ
  pub day : ℕ

abbrev pub numbers_of : Date → Numbers
numbers_of d = record { year = d.year; month = d.month; day = d.day }

-- the date's year is one of four digits, from 0 on
abbrev pub IsOfYears : Date → Type 0
IsOfYears d = IsBetween (pos 0) (pos 9999) d.year

-- what stands before the first such byte, and what stands behind it
abbrev pub before : ℕ → List ℕ → List ℕ
before mark [] = []
before mark (b ∷ bytes) = if b == mark then [] else b ∷ before mark bytes

abbrev pub behind : ℕ → List ℕ → List ℕ
behind mark [] = []
behind mark (b ∷ bytes) = if b == mark then bytes else behind mark bytes

-- digits and nothing else, so many at least and at most
abbrev pub is_run : ℕ → ℕ → List ℕ → Bool
is_run least most run = nat_le least (length run) && (nat_le (length run) most && list_all is_ascii_digit run)

abbrev pub number_in : ℕ → ℕ → List ℕ → Option ℕ
number_in least most run = if is_run least most run then Some (digits_value 10 run) else None

-- the calendar has this day: a year has 12 months, and a month the days that the Gregorian rule gives it
abbrev pub has_day : ℕ → ℕ → ℕ → Bool
has_day y m d = nat_le 1 m && (nat_le m 12 && (nat_le 1 d && nat_le d (days_in_month (pos y) m)))

abbrev pub date_with : ℕ → ℕ → ℕ → Option Numbers
date_with y m d = if has_day y m d then Some (record { year = pos y; month = m; day = d }) else None

-- the date with these numbers, where all three are there
abbrev pub date_by : Option ℕ → Option ℕ → Option ℕ → Option Numbers
date_by (Some y) (Some m) (Some d) = date_with y m d
date_by (Some y) (Some m) None = None
date_by (Some y) None d = None
date_by None m d = None

-- three runs as a date: two numbers of one or two digits in their order, and a year of four digits
abbrev pub year_last : Order → List ℕ → List ℕ → List ℕ → Option Numbers
year_last DayFirst a b c = date_by (number_in 4 4 c) (number_in 1 2 b) (number_in 1 2 a)
year_last MonthFirst a b c = date_by (number_in 4 4 c) (number_in 1 2 a) (number_in 1 2 b)

-- a year of four digits, a month of two and a day of two
abbrev pub year_first : List ℕ → List ℕ → List ℕ → Option Numbers
year_first a b c = date_by (number_in 4 4 a) (number_in 2 2 b) (number_in 2 2 c)

abbrev pub either_end : Order → List ℕ → List ℕ → List ℕ → Option Numbers
either_end order a b c = if is_run 4 4 a then year_first a b c else year_last order a b c

-- the three runs that a mark parts, read so
abbrev pub parted : (List ℕ → List ℕ → List ℕ → Option Numbers) → ℕ → List ℕ → Option Numbers
parted read mark field = read (before mark field) (before mark (behind mark field)) (behind mark (behind mark field))

abbrev pub or_else : Option Numbers → Option Numbers → Option Numbers
or_else (Some d) other = Some d
or_else None other = other

-- THE DATE OF A FIELD, if it is one: its runs are parted by points, by slashes, or by dashes
abbrev pub date_in : Order → List ℕ → Option Numbers
date_in order field = or_else (parted (year_last order) 46 field)
    (or_else (parted (year_last order) 47 field) (parted (either_end order) 45 field))
