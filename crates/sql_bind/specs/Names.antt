-- The names of a query as columns of a schema.
use Rattle.std.specs.Prelude.{ℕ, suc, Bool, List, [], ◌∷◌, Option, option_map, if◌then◌else◌}
use Rattle.std.specs.List.{find}
use Rattle.std.specs.Str.{bytes_eq}
use Rattle.table_core.specs.declared.schema.Column.{Column}
use Rattle.table_core.specs.declared.schema.Kind.{Kind}

abbrev pub is_called : List ℕ → Column → Bool
is_called name column = bytes_eq column.name name

-- the number of the first column of this name; where none has it, the number of columns
abbrev pub column_of : List Column → List ℕ → ℕ
column_of [] name = 0
column_of (column ∷ columns) name = if is_called name column then 0 else suc (column_of columns name)

-- the kind of the first column of this name, if there is one
abbrev pub kind_of : List Column → List ℕ → Option Kind
kind_of columns name = option_map (λ column. column.kind) (find (is_called name) columns)
