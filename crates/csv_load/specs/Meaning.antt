-- The table that a list of records is: typed columns, and a value for each field.
use Rattle.std.specs.Prelude.{◌≡◌, ◌≢◌, ◌+◌, ℕ, List, [], ◌∷◌, map, slice_index_or, All, Contains, ◌⊎◌}
use Rattle.csv_load.specs.Kinds.{kind_of, value_as}
use Rattle.csv_load.specs.Judged.{Fields}
use Rattle.table_core.specs.Dict.{Rises}
use Rattle.table_core.specs.Value.{Value, zip_with}
use Rattle.table_core.specs.declared.schema.Column.{Column}
use Rattle.table_core.specs.declared.schema.Kind.{Kind}
use Rattle.table_core.specs.declared.schema.Kind.TheVariants.{Int, Text, Dec}

-- the fields of the rows at a place
abbrev pub column_at : ℕ → List Fields → Fields
column_at k rows = map (λ row. slice_index_or row k []) rows

-- a column for each name, from a place on: its kind is that of its fields
abbrev pub columns_from : ℕ → Fields → List Fields → List Column
columns_from k [] rows = []
columns_from k (name ∷ names) rows = record { name = name; kind = kind_of (column_at k rows) }
    ∷ columns_from (k + 1) names rows

-- what the fields of a row are worth
abbrev pub row_of : List Column → Fields → List Value
row_of columns row = zip_with (λ column field. value_as column.kind field) columns row

-- columns, and the values of each row
pub record Values : Type 0 where
  pub columns : List Column
  pub rows : List (List Value)

-- the table of a list of records, whose first one is the header
abbrev pub table_of : List Fields → Values
table_of [] = record { columns = []; rows = [] }
table_of (header ∷ rows) = record {
  columns = columns_from 0 header rows;
  rows = map (row_of (columns_from 0 header rows)) rows;
}

-- the rising list of the distinct texts among the fields; an empty field is none
pub record IsDictionary (fields dict : Fields) : Type 0 where
  pub rises : Rises dict
  pub named : All (λ t. (t ≢ []) × Contains fields t) dict
  pub whole : All (λ f. (f ≡ []) ⊎ Contains dict f) fields

-- a column of texts has their dictionary, any other has none
abbrev pub IsColumnDict : Kind → Fields → Fields → Type 0
IsColumnDict Int fields dict = dict ≡ []
IsColumnDict Text fields dict = IsDictionary fields dict
IsColumnDict (Dec places) fields dict = dict ≡ []
