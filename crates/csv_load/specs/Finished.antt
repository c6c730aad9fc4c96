-- Columns with their names and the kinds that were found for them.
use Rattle.std.specs.Prelude.{ℕ, List}
use Rattle.csv_load.specs.declared.typed.Typed.{Typed}
use Rattle.csv_load.specs.Judged.{Fields}
use Rattle.table_core.specs.Value.{zip_with}
use Rattle.table_core.specs.declared.schema.Column.{Column}

-- a column with its name
abbrev pub column_with : List ℕ → Typed → Column
column_with name column = record { name = name; kind = column.kind }

-- a column for each name
abbrev pub columns_with : Fields → List Typed → List Column
columns_with names typed = zip_with column_with names typed
