-- The rules that a look at an export gives, and what they make of it.
use Rattle.std.specs.Prelude.{◌≡◌, ◌+◌, ◌&&◌, ℕ, zero, suc, Bool, true, false, not, nat_lt, List, [], ◌∷◌, ◌++◌}
use Rattle.std.specs.Prelude.{Option, Some, None, if◌then◌else◌, map}
use Rattle.std.specs.Borrow.{Bor}
use Rattle.prepare_look.specs.declared.failure.Failure.TheVariants as broken
use Rattle.prepare_look.specs.declared.failure.Failure.{Failure as Broken}
use Rattle.prepare_numbers.specs.declared.limit.Limit.{Limit}
use Rattle.prepare_page.specs.Advice.{act_on, has_comma, needs_rules, parts, reading_of}
use Rattle.prepare_page.specs.Looks.{IsLookBy}
use Rattle.prepare_page.specs.declared.advice.Reading.{Reading}
use Rattle.prepare_page.specs.declared.advice.TheConstants.{POWERS, ZEROS}
use Rattle.prepare_page.specs.declared.hint.Hint.{Hint}
use Rattle.prepare_page.specs.declared.look.Look.{Look}
use Rattle.prepare_page.specs.declared.marks.TheConstants.{MARKS}
use Rattle.prepare_rules.specs.Outcome.{IsPrepared}
use Rattle.prepare_rules.specs.Tally.{no_tally}
use Rattle.prepare_rules.specs.declared.cause.Refusal.{Refusal}
use Rattle.prepare_rules.specs.declared.failure.Failure.{Failure}
use Rattle.prepare_rules.specs.declared.failure.Failure.TheVariants as failure
use Rattle.prepare_rules.specs.declared.report.Report.{Report}
use Rattle.prepare_rules.specs.declared.rules.Column.{Column}
use Rattle.prepare_rules.specs.declared.rules.Column.TheVariants.{Placed}
use Rattle.prepare_rules.specs.declared.rules.Mark.{Mark}
use Rattle.prepare_rules.specs.declared.rules.Mark.TheVariants as mark
use Rattle.prepare_rules.specs.declared.rules.Rules.{Rules}
use Rattle.prepare_auto.specs.declared.ending.Ending.{Ending}
use Rattle.prepare_auto.specs.declared.given.Given.{Given}
use Rattle.prepare_auto.specs.declared.spelling.Spelling.{Spelling}
use Rattle.prepare_auto.specs.declared.stop.Stop.{Stop}
use Rattle.prepare_auto.specs.declared.stop.Stop.TheVariants.{Record, Titles}

-- what a look needn't guess: what was asked for
abbrev pub hint_of : Given → Rules → Hint
hint_of given asked = record {
  delimiter = if given.delimiter then Some asked.delimiter else None;
  quote = asked.quote;
  titles = if given.skip then Some asked.skip else None;
  is_nameless = not asked.has_names;
}

-- a column behind others, by its place from 1, where it is such
abbrev pub taken_at : (ℕ → Bool) → ℕ → List Column → List Column
taken_at is n before = if is n then before ++ (Placed (n + 1) ∷ []) else before

-- those of the first columns that are such
unfoldable pub places_below : (ℕ → Bool) → ℕ → List Column
places_below is zero = []
places_below is (suc n) = taken_at is n (places_below is n)

abbrev pub mark_of : Reading → Mark
mark_of reading = if has_comma reading then mark.Comma else mark.Point

-- nine digits behind the point at most, and no number is rounded to that
abbrev pub nine_places : Limit
nine_places = record { places = 9; rounds = false }

-- the limit that is asked for, and without one nine places where that has to be
abbrev pub limit_by : Option Limit → Bool → Option Limit
limit_by None has_zeros = if has_zeros then Some nine_places else None
limit_by (Some limit) has_zeros = Some limit

-- a power of ten may stand behind numbers where the rules act in a column that has one, and nine places are the limit
-- where they act in one with more places
abbrev pub spelling_of : Look → Spelling
spelling_of look = record {
  reading = reading_of look.survey;
  has_powers = act_on look.survey (reading_of look.survey) POWERS;
  has_zeros = act_on look.survey (reading_of look.survey) ZEROS;
}

-- the rules that are asked for, with the delimiter of a look, and names or none as it says
abbrev pub shaped : Rules → Look → Rules
shaped asked look = record asked { delimiter = look.guess.delimiter; has_names = look.has_names }

abbrev pub texts : List (Bor (List ℕ)) → List (List ℕ)
texts = map (λ m. m.now)

-- the marks for missing values that a look knows
abbrev pub look_marks : List (List ℕ)
look_marks = map (λ m. m.now) MARKS

-- and with its rules on numbers, which act in these columns, and its marks for missing values behind those that are
-- asked for, as they may be for columns of dates
pub record IsNumbered (shape : Rules) (spelling : Spelling) (places : List Column) (taken : Rules) : Type 0 where
  pub rules : taken ≡ record shape {
    numbers = taken.numbers;
    missing = taken.missing;
    mark = mark_of spelling.reading;
    parts = parts spelling.reading;
    exponents = spelling.has_powers;
    limit = limit_by shape.limit spelling.has_zeros;
  }
  pub numbers : taken.numbers.now ≡ places
  pub missing : texts taken.missing.now ≡ texts shape.missing.now ++ look_marks

-- columns of numbers that are asked for come with their own rules, and else a look gives both
abbrev pub IsNumberedFor : List Column → Rules → Spelling → List Column → Rules → Type 0
IsNumberedFor [] shape spelling places taken = IsNumbered shape spelling places taken
IsNumberedFor (column ∷ columns) shape spelling places taken = taken ≡ shape

-- THE RULES: those that are asked for, and where none are, what a look gives
abbrev pub IsAdvice : Rules → Look → Spelling → List Column → Rules → Type 0
IsAdvice asked look spelling places taken = IsNumberedFor asked.numbers.now (shaped asked look) spelling places taken

-- they act in the columns of numbers of which some field has to be written anew
abbrev pub IsAdvised : Rules → Look → Rules → Type 0
IsAdvised asked look taken = IsAdvice asked look (spelling_of look)
    (places_below (needs_rules look.survey (reading_of look.survey)) look.survey.width) taken

-- these rules were taken, and made this of a text
pub record IsDone (asked : Rules) (look : Look) (text : List ℕ) (report : Report)
    (old new : Option (List ℕ)) : Type 0 where
  pub taken : Rules
  pub advised : IsAdvised asked look taken
  pub made : IsPrepared taken (Some text) report old new

abbrev pub stop_of : Option Refusal → Option Stop
stop_of None = None
stop_of (Some refusal) = Some (Record refusal)

abbrev pub ending_of : Report → Ending
ending_of report = record { tally = report.tally; stop = stop_of report.refusal }

-- nothing is done
abbrev pub only_titles : Look → Ending
only_titles look = record { tally = no_tally; stop = Some (Titles look.titles look.first.line) }

-- records that weren't asked to be left out seem to be titles
abbrev pub has_titles : Given → Look → Bool
has_titles given look = not given.skip && nat_lt 0 look.titles

-- where records seem to be titles nothing is written; else the rules of the look made this of a text
abbrev pub Came : Bool → Rules → Look → List ℕ → Ending → Option (List ℕ) → Option (List ℕ) → Type 0
Came true asked look text ending old new = (ending ≡ only_titles look) × (new ≡ old)
Came false asked look text ending old new =
    (report : Report) × (ending ≡ ending_of report) × IsDone asked look text report old new

-- A TEXT WAS WRITTEN as a look at it says
pub record IsWritten (asked : Rules) (given : Given) (text : List ℕ) (look : Look) (ending : Ending)
    (old new : Option (List ℕ)) : Type 0 where
  pub seen : IsLookBy (hint_of given asked) text look
  pub came : Came (has_titles given look) asked look text ending old new

-- what breaks off a look
abbrev pub failure_of : Broken → Failure
failure_of broken.TooLong = failure.TooLong
failure_of broken.Memory = failure.Memory
