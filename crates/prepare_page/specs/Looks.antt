-- All that is seen of an export.
use Rattle.std.specs.Prelude.{◌≡◌, ◌+◌, ℕ, Bool, false, nat_le, not, ◌&&◌}
use Rattle.std.specs.Prelude.{None, List, [], ◌∷◌, length, drop, if◌then◌else◌}
use Rattle.csv.specs.Reading.{strip_bom}
use Rattle.csv.specs.Records.{fields_of}
use Rattle.csv.specs.declared.parser.State.TheVariants as st
use Rattle.prepare_look.specs.Lines.{count, is_feed, is_return, line_ends, pairs}
use Rattle.prepare_look.specs.Rows.{Row, rows_of}
use Rattle.prepare_look.specs.Surveys.{IsSurvey}
use Rattle.prepare_look.specs.Walk.{format_of, open_from}
use Rattle.prepare_look.specs.declared.lines.Lines.{Lines}
use Rattle.prepare_look.specs.declared.place.Marks.{Marks}
use Rattle.prepare_look.specs.declared.survey.Survey.{Survey}
use Rattle.prepare_page.specs.Delimiters.{IsGuessBy, marked}
use Rattle.prepare_page.specs.Headers.{has_names}
use Rattle.prepare_page.specs.Titles.{titles_by}
use Rattle.prepare_page.specs.declared.counts.TheConstants.{WIDEST}
use Rattle.prepare_page.specs.declared.hint.Hint.{Hint}
use Rattle.prepare_page.specs.declared.look.Look.{Look}

-- the first of some records, or that there is none
abbrev pub IsFirst : List Row → ℕ → List (List ℕ) → Type 0
IsFirst [] line fields = (line ≡ 0) × (fields ≡ [])
IsFirst (row ∷ rows) line fields = row ≡ record { line = line; fields = fields }

abbrev pub below : ℕ → Bool → ℕ
below titles named = if named then titles + 1 else titles

-- the line ends of a text
pub record AreLines (text : List ℕ) (l : Lines) : Type 0 where
  pub feeds : l.feeds ≡ count is_feed text
  pub returns : l.returns ≡ count is_return text
  pub pairs : l.pairs ≡ pairs false text
  pub ends : l.ends ≡ line_ends false text

abbrev pub marks_of : Look → Marks
marks_of look = marked look.guess.delimiter look.quote

-- the records behind the titles
abbrev pub table_of : Look → List ℕ → List Row
table_of look text = drop look.titles (rows_of (marks_of look) text)

-- so many columns are looked at: all, or none where there are too many
abbrev pub looked_at : ℕ → ℕ
looked_at columns = if nat_le columns WIDEST then columns else 0

abbrev pub width_of : Look → ℕ
width_of look = looked_at (length (fields_of look.first.fields))

-- there are names or none, as the records below the first one tell
abbrev pub AreNames : Marks → List ℕ → ℕ → List (List ℕ) → Bool → Type 0
AreNames m text titles first named = (under : Survey)
    × IsSurvey (looked_at (length first)) (drop (titles + 1) (rows_of m text)) under
    × (named ≡ has_names first under (looked_at (length first)))

-- none where that is known, and else as the records tell
abbrev pub AreNamesBy : Bool → Marks → List ℕ → ℕ → List (List ℕ) → Bool → Type 0
AreNamesBy nameless m text titles first named = (told : Bool) × AreNames m text titles first told
    × (named ≡ (not nameless && told))

-- ALL THAT IS SEEN OF AN EXPORT of which this is known
pub record IsLookBy (hint : Hint) (text : List ℕ) (look : Look) : Type 0 where
  pub lines : AreLines text look.lines
  pub unclosed : look.open ≡ open_from (format_of (marks_of look)) st.StartRecord false 1 1 (strip_bom text)
  pub quote : look.quote ≡ hint.quote
  pub guess : IsGuessBy hint.delimiter hint.quote text look.guess
  pub titles : look.titles ≡ titles_by hint.titles look.guess.usual.width (rows_of (marks_of look) text)
  pub first : IsFirst (table_of look text) look.first.line (fields_of look.first.fields)
  pub names : AreNamesBy hint.is_nameless (marks_of look) text look.titles (fields_of look.first.fields) look.has_names
  pub below : look.below ≡ below look.titles look.has_names
  pub survey : IsSurvey (width_of look) (drop look.below (rows_of (marks_of look) text)) look.survey

-- nothing is known but that the quote is a double one
abbrev pub nothing : Hint
nothing = record { delimiter = None; quote = 34; titles = None; is_nameless = false }

-- ALL THAT IS SEEN OF AN EXPORT
abbrev pub IsLook : List ℕ → Look → Type 0
IsLook text look = IsLookBy nothing text look
