-- A column whose kind is known.
use Rattle.std.specs.Prelude.{◌≡◌, ◌<◌, ◌≤◌, ℕ, ℤ, List, [], length, slice_index_or, Option, Some, None, true}
use Rattle.csv_load.specs.Kinds.{is_of, kind_of, value_as}
use Rattle.csv_load.specs.declared.typed.Typed.{Typed}
use Rattle.csv_load.specs.Judged.{Fields}
use Rattle.csv_load.specs.Meaning.{IsColumnDict}
use Rattle.table_core.specs.Columns.{column_cells, number_cell}
use Rattle.table_core.specs.Value.{FitsColumn, places_of, value_in}
use Rattle.table_core.specs.declared.cell.Cell.{Cell}
use Rattle.table_core.specs.declared.cell.Cell.TheVariants.{Null}
use Rattle.table_sets.specs.declared.limits.TheConstants.{MOST_PLACES}
use Rattle.table_core.specs.declared.schema.Kind.{Kind}

-- the cell is what the field is worth in a column of this kind and dictionary
pub record IsCell (kind : Kind) (dict : Fields) (field : List ℕ) (cell : Cell) : Type 0 where
  pub value : value_in dict cell ≡ value_as kind field
  pub fits : FitsColumn kind dict cell

-- the column of these fields
pub record IsTyped (fields : Fields) (column : Typed) : Type 0 where
  pub kind_is : column.kind ≡ kind_of fields
  pub few : places_of column.kind ≤ MOST_PLACES
  pub size : length (column_cells column.cells) ≡ length fields
  pub cells : (i : ℕ) → i < length fields
      → IsCell column.kind column.dict (slice_index_or fields i []) (slice_index_or (column_cells column.cells) i Null)
  pub dictionary : IsColumnDict column.kind fields column.dict

-- the number of each text that the column may have
pub record AreNumbersOf (kind : Kind) (texts : Fields) (numbers : List (Option ℤ)) : Type 0 where
  pub size : length numbers ≡ length texts
  pub read : (i : ℕ) → i < length texts → is_of kind (slice_index_or texts i []) ≡ true
      → IsCell kind [] (slice_index_or texts i []) (number_cell (slice_index_or numbers i None))

-- what stands at a place, nothing for no place
abbrev pub through : {A : Type 0} → List (Option A) → Option ℕ → Option A
through xs None = None
through xs (Some place) = slice_index_or xs place None
