-- What a row of a table may be, by the table's columns and dictionaries.
use Rattle.std.specs.Prelude.{◌≡◌, ◌<◌, ℕ, List, [], length, slice_index_or}
use Rattle.table_core.specs.Value.{FitsColumn}
use Rattle.table_core.specs.declared.cell.Cell.{Cell}
use Rattle.table_core.specs.declared.cell.Cell.TheVariants.{Null}
use Rattle.table_core.specs.declared.schema.Column.{Column}
use Rattle.table_core.specs.declared.schema.Kind.{Kind}
use Rattle.table_core.specs.declared.schema.Kind.TheVariants.{Int}

-- the kind of the column of this number
abbrev pub kind_at : List Column → ℕ → Kind
kind_at columns x = (slice_index_or columns x (record { name = []; kind = Int })).kind

-- the dictionary of the column of this number
abbrev pub dict_at : List (List (List ℕ)) → ℕ → List (List ℕ)
dict_at dicts x = slice_index_or dicts x []

-- a row has a cell for each column, and each is one that its column may have
pub record FitsRow (columns : List Column) (dicts : List (List (List ℕ))) (row : List Cell) : Type 0 where
  pub width : length row ≡ length columns
  pub cells : (x : ℕ) → x < length columns
      → FitsColumn (kind_at columns x) (dict_at dicts x) (slice_index_or row x Null)
