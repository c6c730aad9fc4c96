-- Names that can't stand side by side.
use Rattle.std.specs.Prelude.{ℕ, Bool, List, [], slice_index_or}
use Rattle.std.specs.Str.{bytes_eq}
use Rattle.prepare_page.specs.Columns.{some_below}

-- the names of these two columns are equal
abbrev pub have_one_name : List (List ℕ) → ℕ → ℕ → Bool
have_one_name names column before = bytes_eq (slice_index_or names before []) (slice_index_or names column [])

-- the name of a column is that of one before it
abbrev pub is_again : List (List ℕ) → ℕ → Bool
is_again names column = some_below (have_one_name names column) column

-- SOME TWO of so many first columns have one name
abbrev pub are_twice : List (List ℕ) → ℕ → Bool
are_twice names n = some_below (is_again names) n
