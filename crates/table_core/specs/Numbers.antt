-- Numbers or none: values beside null bits.
use Rattle.std.specs.Prelude.{◌≡◌, ◌≤◌, ◌*◌, ℕ, ℤ, pos, true, false, Option, Some}
use Rattle.std.specs.Prelude.{None, List, length, map, slice_index_or, if◌then◌else◌}
use Rattle.std.specs.List.{range_with_len}
use Rattle.table_sets.specs.Sets.{bit_of}

-- a number, or none where its null bit is set
abbrev pub number_at : List ℤ → List ℕ → ℕ → Option ℤ
number_at values nulls i = if bit_of nulls i then None else Some (slice_index_or values i (pos 0))

abbrev pub numbers_of : List ℤ → List ℕ → List (Option ℤ)
numbers_of values nulls = map (number_at values nulls) (range_with_len 0 (length values))

-- each value has a null bit, the value is 0 where the bit is set, and no bit behind the last value is set
pub record AreNullBits (values : List ℤ) (nulls : List ℕ) : Type 0 where
  pub enough : length values ≤ 64 * length nulls
  pub clear : (i : ℕ) → length values ≤ i → bit_of nulls i ≡ false
  pub zero_there : (i : ℕ) → bit_of nulls i ≡ true → slice_index_or values i (pos 0) ≡ pos 0

-- a number, or 0 where there is none
abbrev pub number_or_zero : Option ℤ → ℤ
number_or_zero None = pos 0
number_or_zero (Some n) = n
