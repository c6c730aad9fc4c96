-- What reading a text gives, before the kinds of its columns are known.
use Rattle.std.specs.Prelude.{◌≡◌, ◌≤◌, ◌<◌, ℕ, List, ◌∷◌, length, None}
use Rattle.csv_load.specs.Gathered.{AreGathered}
use Rattle.csv_load.specs.Judged.{Fields, refusal_of}
use Rattle.table_sets.specs.declared.limits.TheConstants.{MOST_ROWS}

-- the header's names, and the fields of so many rows column by column
pub record IsRead (records : List Fields) (names : Fields) (columns : List Fields) (count : ℕ) : Type 0 where
  pub accepted : refusal_of records ≡ None
  pub rows : List Fields
  pub records_are : records ≡ names ∷ rows
  pub read : AreGathered rows (length names) columns
  pub counted : length rows ≡ count
  pub some_names : 0 < length names
  pub few_rows : length rows ≤ MOST_ROWS
