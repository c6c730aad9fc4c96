-- The values of a column from the first row to the last, and what is told of them.
use Rattle.std.specs.Prelude.{◌≡◌, ◌≢◌, ◌-◌, ℕ, Bool, true, false, List, length}
use Rattle.std.specs.Prelude.{map, filter, All, Contains, Option, Some, None}
use Rattle.std.specs.Ordering.{is_le}
use Rattle.table_core.specs.Value.{Value, none, number, text, value_in, value_cmp}
use Rattle.table_core.specs.declared.cell.Cell.{Cell}
use Rattle.filter_zones.specs.Truth.{cell_at}

-- the value of a row in a column with this dictionary
abbrev pub value_at : List (List ℕ) → ℕ → List Cell → Value
value_at dict x row = value_in dict (cell_at row x)

-- the values of a column
abbrev pub column_values : List (List ℕ) → ℕ → List (List Cell) → List Value
column_values dict x rows = map (value_at dict x) rows

abbrev pub is_none : Value → Bool
is_none none = true
is_none (number n) = false
is_none (text t) = false

-- how many rows have no value
abbrev pub nulls_in : List Value → ℕ
nulls_in values = length (filter is_none values)

-- how many rows have a value
abbrev pub there_in : List Value → ℕ
there_in values = length values - nulls_in values

-- the value stands in some row, and none that stands in a row is less
pub record IsLeast (values : List Value) (v : Value) : Type 0 where
  pub there : Contains values v
  pub is_value : v ≢ none
  pub least : All (λ w. w ≢ none → is_le (value_cmp v w) ≡ true) values

-- the value stands in some row, and none that stands in a row is greater
pub record IsGreatest (values : List Value) (v : Value) : Type 0 where
  pub there : Contains values v
  pub is_value : v ≢ none
  pub greatest : All (λ w. w ≢ none → is_le (value_cmp w v) ≡ true) values

-- the least and the greatest of the values, which cells of the column stand for, where some row has a value
abbrev pub HasEnds : List (List ℕ) → List Value → Option (Cell × Cell) → Type 0
HasEnds dict values None = All (λ v. v ≡ none) values
HasEnds dict values (Some ends) = IsLeast values (value_in dict ends.0) × IsGreatest values (value_in dict ends.1)
