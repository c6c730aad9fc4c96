-- The records of a text, each with the line on which it begins.
use Rattle.std.specs.Prelude.{◌≡◌, ◌+◌, ◌==◌, ◌&&◌, ℕ, Bool, true, false, not, List, [], ◌∷◌, ◌++◌, length, map}
use Rattle.std.specs.Prelude.{if◌then◌else◌}
use Rattle.csv.specs.Machine.{ends_at_end, field_after, fields_after, is_end, step}
use Rattle.csv.specs.Reading.{default_config, records, records_from, strip_bom}
use Rattle.csv.specs.declared.parser.Action.{Action}
use Rattle.csv.specs.declared.parser.Action.TheVariants as action
use Rattle.csv.specs.declared.parser.Config.{Config}
use Rattle.csv.specs.declared.parser.State.{State}
use Rattle.csv.specs.declared.parser.State.TheVariants as st
use Rattle.prepare_text.specs.declared.lines.Lines.{Lines}
use Rattle.prepare_text.specs.declared.place.Act.{Act}
use Rattle.prepare_text.specs.declared.place.Act.TheVariants as act
use Rattle.prepare_text.specs.declared.place.Marks.{Marks}
use Rattle.prepare_text.specs.declared.place.Place.{Place}
use Rattle.prepare_text.specs.declared.place.Place.TheVariants as place
use Rattle.prepare_text.specs.declared.walker.Walker.{Walker}

-- how csv reads records that are marked so
abbrev pub format : Marks → Config
format marks = record default_config { delimiter = marks.delimiter; quote = marks.quote }

-- a place, as csv names it
abbrev pub state_of : Place → State
state_of place.Between = st.StartRecord
state_of place.AfterCr = st.AfterCr
state_of place.Before = st.StartField
state_of place.Inside = st.InField
state_of place.Quoted = st.InQuoted
state_of place.AfterQuote = st.AfterQuote

abbrev pub action_of : Act → Action
action_of act.Skip = action.Skip
action_of act.Copy = action.Copy
action_of act.EndField = action.EndField
action_of act.EndRecord = action.EndRecord

-- this is csv's step
abbrev pub IsStep : State × Action → Place × Act → Type 0
IsStep csv here = (csv.0 ≡ state_of here.0) × (csv.1 ≡ action_of here.1)

-- csv's records from a state on
abbrev pub records_at : Config → State → List ℕ → List (List (List ℕ))
records_at cfg s xs = records_from cfg (length xs + 1) s xs

-- ---- lines

-- a line ends with a carriage return, with a line feed, or with both
abbrev pub ends_line : Bool → ℕ → Bool
ends_line after_cr b = if b == 13 then true else (b == 10) && not after_cr

-- the lines behind a byte: between two records, the next one begins here at the earliest
abbrev pub lines_after : Lines → Bool → ℕ → Lines
lines_after l is_inside b = record {
  line = if ends_line l.after_cr b then l.line + 1 else l.line;
  begun = if is_inside then l.begun else l.line;
  after_cr = b == 13;
}

-- ---- records

-- a record, and the line on which it begins
pub record Lined : Type 0 where
  pub line : ℕ
  pub fields : List (List ℕ)

-- where a walk stands: csv's state, the lines, the fields of the record at hand and the bytes of the field at hand
pub record Walk : Type 0 where
  pub state : State
  pub lines : Lines
  pub fields : List (List ℕ)
  pub field : List ℕ

abbrev pub walk_of : Walker → List (List ℕ) → Walk
walk_of w fields = record { state = state_of w.place; lines = w.lines; fields = fields; field = w.field.items }

-- behind a byte
abbrev pub walked : Config → Walk → ℕ → Walk
walked cfg w b =
    let done = step cfg w.state b in
    record {
      state = done.0;
      lines = lines_after w.lines (ends_at_end w.state) b;
      fields = fields_after done.1 w.fields w.field;
      field = field_after done.1 b w.field;
    }

-- the record that ended, and the walk to the next one
abbrev pub ended : Walk → Lined
ended w = record { line = w.lines.begun; fields = w.fields }

abbrev pub onward : Walk → Walk
onward w = record w { fields = [] }

-- THE RECORDS OF A TEXT from where a walk stands
unfoldable pub lined : Config → Walk → List ℕ → List Lined
lined cfg w [] = if ends_at_end w.state then (record { line = w.lines.begun; fields = w.fields ++ (w.field ∷ []) }) ∷ []
    else []
lined cfg w (b ∷ bytes) = if is_end (step cfg w.state b).1 then
    ended (walked cfg w b) ∷ lined cfg (onward (walked cfg w b)) bytes
    else lined cfg (walked cfg w b) bytes

abbrev pub at_begin : Walk
at_begin = record {
  state = st.StartRecord;
  lines = record { line = 1; begun = 1; after_cr = false };
  fields = [];
  field = [];
}

-- THE RECORDS OF A TEXT that is marked so, each with its line; one leading byte order mark is no part of it
abbrev pub text_records : Marks → List ℕ → List Lined
text_records marks text = lined (format marks) at_begin (strip_bom text)

-- they are those of csv's own definition
abbrev pub AreCsvs : Type 0
AreCsvs = (marks : Marks) (text : List ℕ) → map (λ (r : Lined). r.fields) (text_records marks text)
    ≡ records (format marks) (strip_bom text)

-- nothing but the field at hand may be another
abbrev pub KeepsPlace : Walker → Walker → Type 0
KeepsPlace old new = (new.marks ≡ old.marks) × (new.place ≡ old.place) × (new.lines ≡ old.lines)
