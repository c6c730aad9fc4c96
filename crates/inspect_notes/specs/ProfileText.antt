-- The lines that tell the profile of a table.
use Rattle.std.specs.Prelude.{◌+◌, ℕ, List, [], ◌∷◌, ◌++◌, length, Option, Some, None, codes, decimal, slice_index_or}
use Rattle.csv_load.specs.Judged.{Fields}
use Rattle.csv_load.specs.declared.loaded.Loaded.{Loaded}
use Rattle.sql_writing.specs.Writing.{name_text}
use Rattle.table_core.specs.Value.{value_text, value_in, quoted}
use Rattle.table_core.specs.declared.cell.Cell.{Cell}
use Rattle.table_core.specs.declared.schema.Column.{Column}
use Rattle.table_core.specs.declared.schema.Kind.{Kind}
use Rattle.table_core.specs.declared.schema.Kind.TheVariants.{Int, Text, Dec}
use Rattle.inspect_notes.specs.declared.profile.ColumnProfile.{ColumnProfile}
use Rattle.inspect_notes.specs.declared.reason.Reason.{Reason}
use Rattle.inspect_notes.specs.declared.reason.Reason.TheVariants.{Strangers, Mixed}

abbrev pub kind_text : Kind → List ℕ
kind_text Int = codes "INT"
kind_text Text = codes "TEXT"
kind_text (Dec places) = codes "DECIMAL(" ++ (decimal places ++ codes ")")

abbrev pub texts_text : Option ℕ → List ℕ
texts_text None = []
texts_text (Some n) = codes ", " ++ (decimal n ++ codes " distinct")

abbrev pub ends_text : Kind → Fields → Option (Cell × Cell) → List ℕ
ends_text kind dict None = codes ", no value"
ends_text kind dict (Some ends) = codes ", least "
    ++ (value_text kind (value_in dict ends.0) ++ (codes ", greatest " ++ value_text kind (value_in dict ends.1)))

-- a word and a number
abbrev pub word_number : List ℕ → ℕ → List ℕ
word_number word n = word ++ decimal n

abbrev pub strangers_text : ℕ → List ℕ → ℕ → List ℕ
strangers_text row first count = word_number (codes ", TEXT for ") count
    ++ (codes " that are no numbers, first " ++ (quoted first ++ word_number (codes " in row ") row))

abbrev pub reason_text : Fields → Option Reason → List ℕ
reason_text dict None = []
reason_text dict (Some (Strangers row code count)) = strangers_text row (slice_index_or dict code []) count
reason_text dict (Some Mixed) = codes ", TEXT though each is a number"

-- the number of a column, its name and its kind
abbrev pub head_text : ℕ → Column → List ℕ
head_text number column = word_number (codes "column ") number
    ++ (codes " " ++ (name_text column.name ++ (codes ": " ++ kind_text column.kind)))

-- how many rows have no value, and how many different texts there are
abbrev pub counts_text : ColumnProfile → List ℕ
counts_text p = word_number (codes ", ") p.nulls ++ (codes " NULL" ++ texts_text p.texts)

-- THE LINE of a column, which is counted from 1
abbrev pub column_line : ℕ → Column → Fields → ColumnProfile → List ℕ
column_line number column dict p = head_text number column
    ++ (counts_text p ++ (ends_text column.kind dict p.ends ++ (reason_text dict p.reason ++ 10 ∷ [])))

-- the lines of the columns from one on
abbrev pub column_lines : ℕ → List Column → List Fields → List ColumnProfile → List ℕ
column_lines number [] dicts ps = []
column_lines number (c ∷ cs) [] ps = []
column_lines number (c ∷ cs) (d ∷ dicts) [] = []
column_lines number (c ∷ cs) (d ∷ dicts) (p ∷ ps) = column_line number c d p ++ column_lines (number + 1) cs dicts ps

-- THE LINES of a table: how many rows it has, and a line for each column
abbrev pub profile_text : Loaded → List ColumnProfile → List ℕ
profile_text l ps = word_number (codes "rows ") (length l.table.rows)
    ++ (10 ∷ column_lines 1 l.table.columns l.dicts.items ps)
