-- The text of an answer: the line `query i`, then for each row a line with its values' texts, joined by a comma and a
-- space.
use Rattle.std.specs.Prelude.{◌<◌, ◌≡◌, ℕ, List, [], ◌∷◌, ◌++◌, length, map}
use Rattle.std.specs.Prelude.{Option, Some, None, codes, decimal, slice_index_or}
use Rattle.std.specs.List.{flat_map}
use Rattle.table_core.specs.declared.cell.Cell.{Cell}
use Rattle.table_core.specs.declared.cell.Cell.TheVariants.{Null}
use Rattle.table_core.specs.declared.schema.Kind.{Kind}
use Rattle.table_core.specs.declared.schema.Kind.TheVariants.{Int}
use Rattle.table_core.specs.declared.schema.Column.{Column}
use Rattle.table_core.specs.Value.{Value, value_text, row_values, zip_with, IsCellOf}

-- texts joined by a comma and a space
abbrev pub more_joined : List (List ℕ) → List ℕ
more_joined [] = []
more_joined (t ∷ ts) = (44 ∷ 32 ∷ []) ++ (t ++ more_joined ts)

abbrev pub joined : List (List ℕ) → List ℕ
joined [] = []
joined (t ∷ ts) = t ++ more_joined ts

-- the line of a row of values, each in its column's kind
abbrev pub row_line : List Kind → List Value → List ℕ
row_line kinds row = joined (zip_with value_text kinds row) ++ 10 ∷ []

-- THE TEXT OF AN ANSWER to the query of this number
abbrev pub answer : ℕ → List Kind → List (List Value) → List ℕ
answer query kinds rows = ((codes "query " ++ decimal query) ++ 10 ∷ []) ++ flat_map (row_line kinds) rows

-- the kind in which a cell is written: that of its column, or a whole number
abbrev pub kind_at : List Column → Option ℕ → Kind
kind_at columns None = Int
kind_at [] (Some x) = Int
kind_at (column ∷ columns) (Some x) = (slice_index_or (column ∷ columns) x column).kind

-- the dictionary in which a cell is read: that of its column, or none
abbrev pub dict_at : List (List (List ℕ)) → Option ℕ → List (List ℕ)
dict_at dicts None = []
dict_at dicts (Some x) = slice_index_or dicts x []

-- the row has a cell for each of the columns, which can be read in its dictionary
pub record AreCellsOf (columns : List (Option ℕ)) (dicts : List (List (List ℕ))) (row : List Cell) : Type 0 where
  pub same : length row ≡ length columns
  pub cells : (k : ℕ) → k < length row
      → IsCellOf (dict_at dicts (slice_index_or columns k None)) (slice_index_or row k Null)

-- the kinds and the values of rows of cells, whose columns in the schema these are
abbrev pub kinds_of : List Column → List (Option ℕ) → List Kind
kinds_of schema columns = map (kind_at schema) columns

abbrev pub values_of : List (List (List ℕ)) → List (Option ℕ) → List Cell → List Value
values_of dicts columns row = row_values (map (dict_at dicts) columns) row

-- the column of a cell, where it has one, is a column of the schema
abbrev pub IsColumn : ℕ → Option ℕ → Type 0
IsColumn n None = Unit {0}
IsColumn n (Some x) = x < n
