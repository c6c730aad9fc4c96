-- One meaning over cells and over the values that they stand for.
use Rattle.std.specs.Prelude.{◌≡◌, ℕ, List, map, All}
use Rattle.table_core.specs.Value.{Value, row_values}
use Rattle.table_core.specs.declared.cell.Cell.{Cell}
use Rattle.table_core.specs.Answer.{values_of}
use Rattle.table_core.specs.Answer as answers
use Rattle.query_meaning.specs.declared.item.Item.{Item}
use Rattle.query_meaning.specs.Cells.{codes}
use Rattle.query_meaning.specs.Meaning.{meaning, overflow}
use Rattle.query_meaning.specs.GroupText.{columns_of}
use Rattle.query_meaning.specs.RowText as rows_text
use Rattle.query_meaning.specs.Rows.{RowQuery, Numbered, rows_meaning}
use Rattle.sql_bind.specs.Texts.{texts}

-- a numbered row of cells as its values
abbrev pub numbered_values : List (List (List ℕ)) → Numbered Cell → Numbered Value
numbered_values dicts r = (r.0, row_values dicts r.1)

-- the result rows over cells, read as values, are the result rows over the values
abbrev pub SameMeaning : List (List (List ℕ)) → List Item → List ℕ → List (List Cell) → Type 0
SameMeaning dicts items keys rows = map (values_of dicts (columns_of keys items)) (meaning codes items keys rows)
    ≡ meaning texts items keys (map (row_values dicts) rows)

-- a sum overflows over cells where it does over the values
abbrev pub SameOverflow : List (List (List ℕ)) → List Item → List ℕ → List (List Cell) → Type 0
SameOverflow dicts items keys rows = overflow codes items keys rows
    ≡ overflow texts items keys (map (row_values dicts) rows)

-- the first rows over cells, read as values, are the first rows over the values
abbrev pub SameFirstRows : List (List (List ℕ)) → RowQuery → List (Numbered Cell) → Type 0
SameFirstRows dicts q rows = map (values_of dicts (rows_text.columns_of q.columns)) (rows_meaning codes q rows)
    ≡ rows_meaning texts q (map (numbered_values dicts) rows)

-- each cell of the result rows can be read in the dictionary of its column
abbrev pub AreReadable : List (List (List ℕ)) → List Item → List ℕ → List (List Cell) → Type 0
AreReadable dicts items keys rows = All (answers.AreCellsOf (columns_of keys items) dicts)
    (meaning codes items keys rows)

-- each cell of the first rows can be read in the dictionary of its column
abbrev pub AreReadableRows : List (List (List ℕ)) → RowQuery → List (Numbered Cell) → Type 0
AreReadableRows dicts q rows = All (answers.AreCellsOf (rows_text.columns_of q.columns) dicts)
    (rows_meaning codes q rows)
