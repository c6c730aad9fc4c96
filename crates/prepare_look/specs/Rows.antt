-- The records of an export with the lines on which they begin.
use Rattle.std.specs.Prelude.{◌≡◌, ◌≤◌, ◌+◌, ℕ, false, List, [], ◌∷◌, length, map}
use Rattle.std.specs.Borrow.{Bor}
use Rattle.csv.specs.Reading.{strip_bom}
use Rattle.csv.specs.declared.parser.State.TheVariants as st
use Rattle.csv.specs.declared.reader.Reader.{Reader}
use Rattle.prepare_look.specs.Reading.{IsReading}
use Rattle.prepare_look.specs.Spots.{lines_left}
use Rattle.prepare_look.specs.Walk.{begins_from, format_of}
use Rattle.prepare_look.specs.declared.place.Marks.{Marks}
use Rattle.prepare_look.specs.declared.spot.Spot.{Spot}
use Rattle.prepare_look.specs.Records.{Record, text_records}

-- a record and the line on which it begins, counted from 1
pub record Row : Type 0 where
  pub line : ℕ
  pub fields : Record

abbrev pub with_lines : List ℕ → List Record → List Row
with_lines [] rows = []
with_lines (line ∷ lines) [] = []
with_lines (line ∷ lines) (fields ∷ rows) = record { line = line; fields = fields } ∷ with_lines lines rows

-- the lines on which the records of a text begin; one leading byte order mark is no part of it
abbrev pub lines_of : Marks → List ℕ → List ℕ
lines_of m text = begins_from (format_of m) st.StartRecord false 1 (strip_bom text)

-- ALL RECORDS OF A TEXT, with their lines
abbrev pub rows_of : Marks → List ℕ → List Row
rows_of m text = with_lines (lines_of m text) (text_records (format_of m) text)

-- each record has its line
abbrev pub HaveTheirLines : Type 0
HaveTheirLines = (m : Marks) (text : List ℕ)
    → map (λ (r : Row). r.fields) (rows_of m text) ≡ text_records (format_of m) text

-- the records that are left with their lines
abbrev pub rows_left : Marks → List ℕ → Spot → List Record → List Row
rows_left m text spot rows = with_lines (lines_left m text spot) rows

-- a reader over a text, and a walk beside it
pub record IsGoing (text : List ℕ) (spot : Spot) (reader : Reader (Bor (List ℕ))) : Type 0 where
  pub at : spot.at ≤ length text
  pub line : spot.line ≤ spot.at + 1
  pub reads : IsReading reader
