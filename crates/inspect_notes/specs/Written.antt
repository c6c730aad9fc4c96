-- Which profiles can be written: their codes can be read in the dictionaries.
use Rattle.std.specs.Prelude.{◌≡◌, ◌<◌, ℕ, List, length, Option, Some, None, IfSome, slice_index_or}
use Rattle.csv_load.specs.Judged.{Fields}
use Rattle.table_core.specs.Fitting.{dict_at}
use Rattle.table_core.specs.Value.{IsCellOf}
use Rattle.table_core.specs.declared.schema.Column.{Column}
use Rattle.inspect_notes.specs.declared.profile.ColumnProfile.{ColumnProfile}
use Rattle.inspect_notes.specs.declared.reason.Reason.{Reason}
use Rattle.inspect_notes.specs.declared.reason.Reason.TheVariants.{Strangers, Mixed}

-- the code of a reason is a place in the dictionary
abbrev pub IsReasonOf : Fields → Option Reason → Type 0
IsReasonOf dict None = Unit {0}
IsReasonOf dict (Some (Strangers row code count)) = code < length dict
IsReasonOf dict (Some Mixed) = Unit {0}

-- the codes of a profile are places in the dictionary
pub record IsReadable (dict : Fields) (p : ColumnProfile) : Type 0 where
  pub ends : IfSome p.ends (λ e. IsCellOf dict e.0 × IsCellOf dict e.1)
  pub reason : IsReasonOf dict p.reason

-- there is a dictionary and a profile for each column, and each can be read
pub record AreWritable (columns : List Column) (dicts : List Fields) (profiles : List ColumnProfile) : Type 0 where
  pub dict_count : length dicts ≡ length columns
  pub count : length profiles ≡ length columns
  pub each : (x : ℕ) (d : ColumnProfile) → x < length columns
      → IsReadable (dict_at dicts x) (slice_index_or profiles x d)
