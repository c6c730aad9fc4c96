-- Columns of dates, and which of two numbers is their day.
use Rattle.std.specs.Prelude.{ℕ, List, Option, Some, None, if◌then◌else◌}
use Rattle.prepare_dates.specs.declared.order.Order.{Order}
use Rattle.prepare_dates.specs.declared.order.Order.TheVariants as o
use Rattle.prepare_look.specs.declared.survey.Survey.{Survey}
use Rattle.prepare_page.specs.Columns.{is_of}
use Rattle.prepare_page.specs.declared.dated.TheConstants as c

-- THE ORDER OF THE DATES in a column, where each field is one, empty or a mark for a missing value, and some date has a
-- number above 12, which can't be a month
abbrev pub order_in : Survey → ℕ → Option Order
order_in s column = if is_of s column c.DAY_FIRST c.NOT_DAY_FIRST then Some o.DayFirst
    else if is_of s column c.MONTH_FIRST c.NOT_MONTH_FIRST then Some o.MonthFirst else None
