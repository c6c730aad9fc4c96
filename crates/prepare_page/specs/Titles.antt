-- Records above the names.
use Rattle.std.specs.Prelude.{◌+◌, ◌*◌, ◌&&◌, ℕ, Bool, nat_le, Option, Some, None, List, [], ◌∷◌, length, if◌then◌else◌}
use Rattle.prepare_look.specs.Lines.{one_if}
use Rattle.prepare_look.specs.Rows.{Row}

-- how many fields have bytes
unfoldable pub filled : List (List ℕ) → ℕ
filled [] = 0
filled (f ∷ fields) = one_if (nat_le 1 (length f)) + filled fields

-- the record may hold the names: it has two fields or more, and half as many with bytes as most records have fields
abbrev pub names_in : ℕ → List (List ℕ) → Bool
names_in width fields = nat_le 2 (length fields) && nat_le width (2 * filled fields)

-- how many records stand above the first that may hold the names, where so many stand before these; 0 where none may
unfoldable pub titles_from : ℕ → ℕ → List Row → ℕ
titles_from width before [] = 0
titles_from width before (row ∷ rows) = if names_in width row.fields then before
    else titles_from width (before + 1) rows

-- so many records stand above the names as is known, or else guessed
abbrev pub titles_by : Option ℕ → ℕ → List Row → ℕ
titles_by None width rows = titles_from width 0 rows
titles_by (Some titles) width rows = titles
