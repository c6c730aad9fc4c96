-- What the rules make of all records of an export.
use Rattle.std.specs.Prelude.{◌≡◌, ◌≢◌, ◌+◌, ◌==◌, ⊤, ℕ, Bool, true, false, nat_lt, if◌then◌else◌, codes, decimal}
use Rattle.std.specs.Prelude.{List, [], ◌∷◌, ◌++◌, length, drop, map, Option, Some, None, Result, Ok, Err}
use Rattle.std.specs.Io.KnownBytes.{Appends}
use Rattle.csv.specs.Reading.{default_config, records}
use Rattle.csv.specs.Writing.{default_writer, fields_written, has_written, row_text, writer_setup}
use Rattle.csv.specs.declared.writer.Writer.{Writer}
use Rattle.prepare_rules.specs.Columns.{from_on, is_few, names_written, picks_of}
use Rattle.prepare_rules.specs.Made.{row_made, row_told}
use Rattle.prepare_rules.specs.Names.{named_picks, names_refusal}
use Rattle.prepare_rules.specs.Records.{Record}
use Rattle.prepare_rules.specs.Tally.{no_tally}
use Rattle.prepare_text.specs.Walk.{Lined, text_records}
use Rattle.prepare_text.specs.declared.place.Marks.{Marks}
use Rattle.prepare_rules.specs.declared.cause.Cause.{Cause}
use Rattle.prepare_rules.specs.declared.cause.Cause.TheVariants as cause
use Rattle.prepare_rules.specs.declared.cause.Refusal.{Refusal}
use Rattle.prepare_rules.specs.declared.columns.Pick.{Pick}
use Rattle.prepare_rules.specs.declared.columns.Plan.{Plan}
use Rattle.prepare_rules.specs.declared.report.Report.{Report}
use Rattle.prepare_rules.specs.declared.rules.Rules.{Rules}
use Rattle.prepare_rules.specs.declared.tally.Tally.{Tally}
use Rattle.table_sets.specs.declared.limits.TheConstants.{MOST_ROWS}

-- no record is refused, and this is told of all
abbrev pub unrefused : Tally → Report
unrefused told = record { tally = told; refusal = None }

-- this record is refused, which begins on this line, if it is there, and this is told of those before it
abbrev pub refused_in : ℕ → Option ℕ → Cause → Tally → Report
refused_in at line c told = record { tally = told; refusal = Some (record { number = at; line = line; cause = c }) }

-- the first record that isn't left out is refused
abbrev pub refused_first : ℕ → Option ℕ → Cause → Report
refused_first skip line c = refused_in (skip + 1) line c no_tally

-- the records that are written, and what is told: what the rules did in them, and the one that isn't taken, if there is
-- one
pub record Outcome : Type 0 where
  pub rows : List Record
  pub report : Report

abbrev pub all_done : Report → Outcome
all_done report = record { rows = []; report = report }

-- this record is written, and then the rest
abbrev pub with_row : Record → Outcome → Outcome
with_row row rest = record { rows = row ∷ rest.rows; report = rest.report }

abbrev pub made_first : ℕ → ℕ → Tally → Result Record Cause → Outcome → Outcome
made_first at line told (Err c) rest = all_done (refused_in at (Some line) c told)
made_first at line told (Ok row) rest = with_row row rest

-- the number of the first record below the names
abbrev pub first_row : Rules → ℕ
first_row rules = if rules.has_names then rules.skip + 2 else rules.skip + 1

-- the number of the record that is one row more than a table has
abbrev pub number_past : Rules → ℕ
number_past rules = first_row rules + MOST_ROWS

-- the records below the names, of which the first has this number, behind those of which this is told; a row more than
-- a table has is written, and refused
abbrev pub below : Rules → ℕ → List Pick → ℕ → Tally → List Lined → Outcome
below rules names picks at told [] = all_done (unrefused told)
below rules names picks at told (r ∷ rows) = made_first at r.line told (row_made rules names picks r.fields)
    (if at == number_past rules
    then all_done (refused_in at (Some r.line) cause.TooManyRows (row_told rules names picks r told))
    else below rules names picks (at + 1) (row_told rules names picks r told) rows)

-- the names that are written, and the records below them; the names were found on this line
abbrev pub under_picks : Rules → Record → ℕ → ℕ → List Lined → Result (List Pick) Cause → Outcome
under_picks rules names line at rows (Err c) = all_done (refused_first rules.skip (Some line) c)
under_picks rules names line at rows (Ok picks) =
    with_row (names_written rules names picks) (below rules (length names) picks at no_tally rows)

abbrev pub under : Rules → Record → ℕ → ℕ → List Lined → Outcome
under rules names line at rows = under_picks rules names line at rows (named_picks rules names (picks_of rules names))

-- so many names: c1, c2, ..
abbrev pub counted_names : ℕ → Record
counted_names n = map (λ k. codes "c" ++ decimal k) (from_on 1 n)

-- this record and those behind it, below names by their numbers
abbrev pub from_first : Rules → Lined → List Lined → Outcome
from_first rules first rows = under rules (counted_names (length first.fields)) first.line (rules.skip + 1)
    (first ∷ rows)

-- the records that aren't left out
abbrev pub kept : Rules → List Lined → Outcome
kept rules [] = all_done (refused_first rules.skip None cause.NoHeader)
kept rules (first ∷ rows) = if rules.has_names then under rules first.fields first.line (rules.skip + 2) rows
    else from_first rules first rows

-- WHAT BECOMES OF ALL RECORDS
abbrev pub prepared : Rules → List Lined → Outcome
prepared rules rows = kept rules (drop rules.skip rows)

-- the text of records, as coop_cli reads them
unfoldable pub rows_text : List Record → List ℕ
rows_text [] = []
rows_text (row ∷ rows) = row_text default_writer row ++ rows_text rows

-- known records came to this: what was written is their text, and this is told
abbrev pub Becomes : (List Lined → Outcome) → Option (List Lined) → Report → Option (List ℕ) → Option (List ℕ) → Type 0
Becomes ideal None report old new = ⊤
Becomes ideal (Some rows) report old new =
    (report ≡ (ideal rows).report) × Appends old new (rows_text (ideal rows).rows)

-- a writer between two records that writes as coop_cli reads
pub record IsWriting {W : Type 0} (writer : Writer W) : Type 0 where
  pub setup : writer_setup writer ≡ default_writer
  pub fields : fields_written writer ≡ 0
  pub wrote : has_written writer ≡ false

-- the columns that are written were found, and their names written; or why there are none
abbrev pub Begins : Rules → Record → Result Plan Cause → Option (List ℕ) → Option (List ℕ) → Type 0
Begins rules names (Ok plan) old new = (named_picks rules names (picks_of rules names) ≡ Ok plan.picks.items)
    × (plan.names ≡ length names)
    × Appends old new (row_text default_writer (names_written rules names plan.picks.items))
Begins rules names (Err c) old new = (named_picks rules names (picks_of rules names) ≡ Err c) × (new ≡ old)

abbrev pub marks_of : Rules → Marks
marks_of rules = record { delimiter = rules.delimiter; quote = rules.quote }

-- the text of an export, where it is known, became this
abbrev pub IsPrepared : Rules → Option (List ℕ) → Report → Option (List ℕ) → Option (List ℕ) → Type 0
IsPrepared rules None report old new = ⊤
IsPrepared rules (Some text) report old new =
    Becomes (prepared rules) (Some (text_records (marks_of rules) text)) report old new

-- these records have so many fields
abbrev pub AreWide : ℕ → List Record → Type 0
AreWide width [] = ⊤
AreWide width (row ∷ rows) = (length row ≡ width) × AreWide width rows

-- this is the refusal of a row too many
abbrev pub is_full_for : Cause → Bool
is_full_for cause.TooManyRows = true
is_full_for _ = false

abbrev pub is_full : Option Refusal → Bool
is_full None = false
is_full (Some refusal) = is_full_for refusal.cause

-- names that are all taken, as many as a table has, and rows as wide, too many only where this is told; nothing stands
-- there only where a record is refused
abbrev pub IsTable : List Record → Option Refusal → Type 0
IsTable [] refusal = refusal ≢ None
IsTable (names ∷ rows) refusal = (is_few (length names) ≡ true) × (names_refusal [] names ≡ None)
    × AreWide (length names) rows × (nat_lt MOST_ROWS (length rows) ≡ is_full refusal)

-- the records that are written are those of the text that is written
abbrev pub ReadsBack : Type 0
ReadsBack = (rules : Rules) (rows : List Lined)
    → records default_config (rows_text (prepared rules rows).rows) ≡ (prepared rules rows).rows
