-- Whether runs of blanks part the columns.
use Rattle.std.specs.Prelude.{◌≡◌, ◌==◌, ◌&&◌, ◌*◌, ◌<◌, ◌⊎◌, ℕ, Bool, true, false, nat_le, List, drop}
use Rattle.std.specs.Prelude.{Option, Some, None}
use Rattle.prepare_blanks.specs.Tabs.{tabbed}
use Rattle.prepare_look.specs.Rows.{Row, rows_of}
use Rattle.prepare_look.specs.Surveys.{IsSurvey}
use Rattle.prepare_look.specs.declared.survey.Survey.{Survey}
use Rattle.prepare_page.specs.Columns.{count_columns}
use Rattle.prepare_page.specs.Delimiters.{marked}
use Rattle.prepare_page.specs.Widths.{IsUsual}
use Rattle.prepare_page.specs.declared.delimiter.Guess.{Guess}
use Rattle.prepare_page.specs.declared.header.TheConstants.{VALUES, WORDS}
use Rattle.prepare_page.specs.declared.usual.Usual.{Usual}

-- the records of a text that is parted by tabs
abbrev pub rows_by_tabs : List ℕ → List Row
rows_by_tabs made = rows_of (marked 9 34) made

-- each record has as many fields, two or more, and there are two records
abbrev pub is_even : Usual → Bool
is_even u = (u.count == u.records) && nat_le 2 u.records

-- half of the columns are numbers or dates, and nothing but them and what is missing
abbrev pub is_half : Survey → Bool
is_half s = nat_le s.width (2 * count_columns s VALUES WORDS s.width)

-- RECORDS ARE A TABLE: each has as many fields, and half of the columns below the first one are numbers or dates
pub record AreTable (rows : List Row) (are : Bool) : Type 0 where
  pub usual : Usual
  pub under : Survey
  pub widths : IsUsual rows usual
  pub survey : IsSurvey usual.width (drop 1 rows) under
  pub is : are ≡ (is_even usual && is_half under)

-- BLANKS PART THE COLUMNS of a text: under no other delimiter has a record two fields, and the words of its lines are a
-- table
abbrev pub IsByBlanks : List ℕ → Guess → Option (List ℕ) → Type 0
IsByBlanks text guess (Some made) = (guess.usual.count ≡ 0) × (made ≡ tabbed 34 text)
    × AreTable (rows_by_tabs made) true
IsByBlanks text guess None = (0 < guess.usual.count) ⊎ AreTable (rows_by_tabs (tabbed 34 text)) false
