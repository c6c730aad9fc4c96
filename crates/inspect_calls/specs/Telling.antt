-- What is told of the statements of a batch over a table.
use Rattle.std.specs.Prelude.{◌≡◌, ◌<◌, ◌≤◌, ◌||◌, ◌++◌, ℕ, suc, Bool, true, false, List, [], ◌∷◌, All, length}
use Rattle.inspect_notes.specs.Notes.{IsNote}
use Rattle.inspect_notes.specs.NoteText.{note_text}
use Rattle.inspect_notes.specs.Zones.{AreZonesOf}
use Rattle.inspect_notes.specs.declared.note.Note.{Note}
use Rattle.csv_load.specs.Judged.{Fields}
use Rattle.filter_zones.specs.declared.zone.ChunkZones.{ChunkZones}
use Rattle.run_inputs.specs.Statements.{part}
use Rattle.run_output.specs.Refusals.{refusal_line, statement_words}
use Rattle.sql_bind.specs.Statements.{IsPlanFor, IsRefusedFor}
use Rattle.sql_bind.specs.declared.plan.Plan.{Plan}
use Rattle.sql_bind.specs.declared.statement.StatementRefusal.{StatementRefusal}
use Rattle.sql_tokens.specs.declared.span.Span.{Span}
use Rattle.table_core.specs.Value.{places_of}
use Rattle.table_sets.specs.declared.limits.TheConstants.{MOST_COLUMNS, MOST_PLACES}
use Rattle.table_core.specs.declared.schema.Column.{Column}
use Rattle.inspect_calls.specs.Placing.{IsPlaceTold}

-- statements can be told over these columns with their dictionaries, and the zones of the table's chunks
pub record CanTell (columns : List Column) (dicts : List Fields) (zones : List ChunkZones) : Type 0 where
  pub some : 0 < length columns
  pub few : length columns ≤ MOST_COLUMNS
  pub places : All (λ c. places_of c.kind ≤ MOST_PLACES) columns
  pub each : length dicts ≡ length columns
  pub zoned : AreZonesOf columns dicts zones

-- a statement that has a plan: its note is told
pub record IsNoteTold (columns : List Column) (dicts : List Fields) (zones : List ChunkZones) (text : List ℕ)
    (number : ℕ) (told : List ℕ) : Type 0 where
  pub plan : Plan
  pub note : Note
  pub planned : IsPlanFor text columns dicts plan
  pub is : IsNote text plan zones note
  pub lines : told ≡ note_text number columns note

-- a refusal: the line that a run prints of it, and its place
pub record IsRefusalTold (columns : List Column) (batch : List ℕ) (number : ℕ) (span : Span) (why : StatementRefusal)
    (told : List ℕ) : Type 0 where
  pub place : List ℕ
  pub placed : IsPlaceTold batch span columns why place
  pub lines : told ≡ refusal_line number (statement_words why) ++ place

-- a statement that is refused
pub record IsRefused (columns : List Column) (batch : List ℕ) (number : ℕ) (span : Span) (told : List ℕ) : Type 0 where
  pub why : StatementRefusal
  pub cause : IsRefusedFor (part batch span) columns why
  pub is : IsRefusalTold columns batch number span why told

abbrev pub IsToldAs : Bool → List Column → List Fields → List ChunkZones → List ℕ → ℕ → Span → List ℕ → Type 0
IsToldAs false columns dicts zones batch number span told = IsNoteTold columns dicts zones (part batch span) number told
IsToldAs true columns dicts zones batch number span told = IsRefused columns batch number span told

-- what is told of a statement stands at the end
pub record IsTold (columns : List Column) (dicts : List Fields) (zones : List ChunkZones) (batch : List ℕ) (number : ℕ)
    (span : Span) (refused : Bool) (old new : List ℕ) : Type 0 where
  pub told : List ℕ
  pub is : IsToldAs refused columns dicts zones batch number span told
  pub behind : new ≡ old ++ told

-- each statement is told, one behind the other, and whether one of them is refused
abbrev pub AreTold : List Column → List Fields → List ChunkZones → List ℕ → ℕ → List Span → Bool → List ℕ → List ℕ
    → Type 0
AreTold columns dicts zones batch number [] refused old new = (refused ≡ false) × (new ≡ old)
AreTold columns dicts zones batch number (span ∷ spans) refused old new = (between : List ℕ) × (first others : Bool)
    × IsTold columns dicts zones batch number span first old between
    × AreTold columns dicts zones batch (suc number) spans others between new × (refused ≡ (first || others))
