-- Times, in microseconds.
use Rattle.std.specs.Prelude.{◌-◌, ◌^◌, ℕ, List, min, nat_lt, slice_index, if◌then◌else◌}

-- the time from one moment to another, as far as 32 bits go
abbrev pub time_between : ℕ → ℕ → ℕ
time_between from to = min (to - from) (2 ^ 32 - 1)

-- when a query begins: where it is the first of its stream, with the run, and else when the one before it ends
abbrev pub begin_of : ℕ → List ℕ → ℕ → ℕ → ℕ
begin_of began ends streams place = if nat_lt place streams then began else slice_index ends (place - streams)
