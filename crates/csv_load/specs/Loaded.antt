-- What loading a text gives: cells and dictionaries that stand for the table of its records.
use Rattle.std.specs.Prelude.{◌≡◌, ◌<◌, ◌≤◌, ℕ, List, length, map, drop, None, All}
use Rattle.csv_load.specs.Meaning.{IsColumnDict, column_at, table_of}
use Rattle.csv_load.specs.Judged.{Fields, refusal_of}
use Rattle.table_core.specs.Fitting.{FitsRow, dict_at, kind_at}
use Rattle.table_sets.specs.declared.limits.TheConstants.{MOST_COLUMNS, MOST_ROWS}
use Rattle.table_core.specs.Table.{TableRows}
use Rattle.table_core.specs.Value.{row_values}

-- the table and its dictionaries stand for the table of the records
pub record IsLoaded (records : List Fields) (table : TableRows) (dicts : List Fields) : Type 0 where
  pub accepted : refusal_of records ≡ None
  pub columns : table.columns ≡ (table_of records).columns
  pub rows : map (row_values dicts) table.rows ≡ (table_of records).rows
  pub dict_count : length dicts ≡ length table.columns
  pub dictionaries : (k : ℕ) → k < length table.columns
      → IsColumnDict (kind_at table.columns k) (column_at k (drop 1 records)) (dict_at dicts k)
  pub fits : All (FitsRow table.columns dicts) table.rows
  pub some_columns : 0 < length table.columns
  pub few_columns : length table.columns ≤ MOST_COLUMNS
  pub few_rows : length table.rows ≤ MOST_ROWS
