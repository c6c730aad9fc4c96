-- The shape of a table with its dictionaries.
use Rattle.std.specs.Prelude.{◌<◌, ℕ, List, length, map}
use Rattle.table_core.specs.Fitting.{dict_at, kind_at}
use Rattle.table_core.specs.Table.{TableRows}
use Rattle.table_core.specs.Value.{FitsColumn}
use Rattle.piece_format.specs.Cells.{cell_at}
use Rattle.piece_format.specs.Shape.{TableShape}
use Rattle.piece_format.specs.declared.layout.Layout.{Layout}

-- the shape of a table in a layout, with so many rows in each chunk but the last
abbrev pub shape_of : TableRows → List (List (List ℕ)) → Layout → ℕ → TableShape
shape_of table dicts layout per = record {
  layout = layout;
  kinds = map (λ column. column.kind) table.columns;
  dict_lens = map length dicts;
  rows = length table.rows;
  per = per;
}

-- each cell of the table is one that its column may have
abbrev pub FitsDicts : TableRows → List (List (List ℕ)) → Type 0
FitsDicts table dicts = (row x : ℕ) → row < length table.rows → x < length table.columns
    → FitsColumn (kind_at table.columns x) (dict_at dicts x) (cell_at table.rows row x)
