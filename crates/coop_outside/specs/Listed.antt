-- Which calls of a device in memory fail, and what its counts do.
use Rattle.std.specs.Prelude.{◌+◌, ◌-◌, ◌^◌, ◌==◌, ℕ, Bool, List, min, if◌then◌else◌}
use Rattle.std.specs.List.{list_any}

-- one more, as far as a count goes
abbrev pub counted : ℕ → ℕ
counted n = min (n + 1) (2 ^ 64 - 1)

-- one more where it is so
abbrev pub counted_if : Bool → ℕ → ℕ
counted_if so n = if so then counted n else n

-- whether a call is listed, by its number
abbrev pub is_listed : List ℕ → ℕ → Bool
is_listed numbers call = list_any (λ n. n == call) numbers
