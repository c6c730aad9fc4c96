-- The profile of a table: what is told of each of its columns.
use Rattle.std.specs.Prelude.{◌≡◌, ◌<◌, ℕ, List, length, Option, Some, None, slice_index_or}
use Rattle.csv_load.specs.Judged.{Fields}
use Rattle.csv_load.specs.Loaded.{IsLoaded}
use Rattle.csv_load.specs.declared.loaded.Loaded.{Loaded}
use Rattle.table_core.specs.Fitting.{dict_at, kind_at}
use Rattle.table_core.specs.Value.{Value}
use Rattle.table_core.specs.declared.schema.Kind.{Kind}
use Rattle.table_core.specs.declared.schema.Kind.TheVariants.{Int, Text, Dec}
use Rattle.inspect_notes.specs.declared.profile.ColumnProfile.{ColumnProfile}
use Rattle.inspect_notes.specs.Values.{column_values, nulls_in, HasEnds}
use Rattle.inspect_notes.specs.Reasons.{IsReason}

-- how many texts the dictionary of a column of texts has: a loaded table's has each of the column's texts once
abbrev pub texts_in : Kind → Fields → Option ℕ
texts_in Int dict = None
texts_in Text dict = Some (length dict)
texts_in (Dec places) dict = None

-- THE PROFILE of a column of this kind, with this dictionary and these values
pub record IsProfile (kind : Kind) (dict : Fields) (values : List Value) (p : ColumnProfile) : Type 0 where
  pub nulls : p.nulls ≡ nulls_in values
  pub texts : p.texts ≡ texts_in kind dict
  pub ends : HasEnds dict values p.ends
  pub reason : IsReason kind dict values p.reason

-- the table was loaded from some records
abbrev pub IsOfRecords : Loaded → Type 0
IsOfRecords l = (records : List Fields) × IsLoaded records l.table l.dicts.items

-- the profile of a column of a loaded table
abbrev pub IsProfileAt : Loaded → ℕ → ColumnProfile → Type 0
IsProfileAt l x p = IsProfile (kind_at l.table.columns x) (dict_at l.dicts.items x)
    (column_values (dict_at l.dicts.items x) x l.table.rows) p

-- each column of a loaded table has its profile
pub record AreProfiles (l : Loaded) (profiles : List ColumnProfile) : Type 0 where
  pub count : length profiles ≡ length l.table.columns
  pub each : (x : ℕ) (d : ColumnProfile) → x < length l.table.columns → IsProfileAt l x (slice_index_or profiles x d)
