-- What a run is given, and how reading it ends.
use Rattle.std.specs.Prelude.{◌≡◌, ◌≢◌, ◌≤◌, ◌⊎◌, ℕ, All, List, length, Option, Some, None, Result, Ok, Err}
use Rattle.coop_outside.specs.Causes.{Rose}
use Rattle.coop_outside.specs.Held.{Held, Lacks, ReadFails, told}
use Rattle.command_words.specs.Options.{Request}
use Rattle.csv_load.specs.Loaded.{IsLoaded}
use Rattle.csv_load.specs.declared.limits.TheConstants.{MOST_TEXT_BYTES}
use Rattle.csv_load.specs.Rows.{table_records}
use Rattle.run_stops.specs.declared.stop.Stop.{Stop}
use Rattle.run_stops.specs.declared.stop.Stop.TheVariants as stop
use Rattle.table_core.specs.Value.{places_of}
use Rattle.table_sets.specs.declared.limits.TheConstants.{MOST_PLACES}
use Rattle.run_inputs.specs.Order.{first_stop, frames_given, stop_in, table_stop}
use Rattle.run_inputs.specs.Sources.{Source, made, stored, batch_source, table_source, text_in}
use Rattle.run_inputs.specs.Statements.{statements_in}
use Rattle.run_stops.specs.Outcomes.{ComeTo}
use Rattle.run_stops.specs.declared.outcome.Outcome.{Outcome}
use Rattle.run_inputs.specs.declared.inputs.Inputs.{Inputs}
use Rattle.run_inputs.specs.declared.inputs.ReadTexts.{ReadTexts}
use Rattle.run_inputs.specs.declared.limits.TheConstants.{MOST_BATCH_BYTES}
use Rattle.csv_load.specs.declared.loaded.Loaded.{Loaded}

-- a call ends as it should: with such a value where nothing stops it, else with what stops it; or memory runs out, or
-- the shelf failed
abbrev pub Ends : {T : Type 0} → Option Stop → (T → Type 0) → (Stop → Type 0) → ℕ → ℕ → Result T Stop → Type 0
Ends why Is IsFault before now (Ok x) = (why ≡ None) × Is x
Ends why Is IsFault before now (Err s) = (why ≡ Some s) ⊎ (s ≡ stop.Memory) ⊎ (IsFault s × Rose before now)

-- the table is accepted: its text is there, and neither the text nor the frames stop the run
abbrev pub AcceptsTable : Request → Option (List ℕ) → Type 0
AcceptsTable r table = stop_in stop.TableFault (table_stop r) table ≡ None

-- the shelf failed in the order of the work: while the table was read, or, behind a table that is accepted, while the
-- batch was
abbrev pub IsReadFault : Request → Option (List ℕ) → Stop → Type 0
IsReadFault r table s = (s ≡ stop.TableFault) ⊎ ((s ≡ stop.BatchFault) × AcceptsTable r table)

-- ---- texts

-- a name was read as this text: as the one that the shelf tells, or as any where it tells nothing; as none only where
-- it tells that it lacks the name
abbrev pub IsReadAs : Held → List ℕ → Option (List ℕ) → Type 0
IsReadAs held name None = Lacks held name
IsReadAs held name (Some text) = (t : Option (List ℕ)) → told held name ≡ Some t → t ≡ Some text

abbrev pub IsTextOf : Held → Source → Option (List ℕ) → Type 0
IsTextOf held (made text) t = t ≡ Some text
IsTextOf held (stored name) t = IsReadAs held name t

-- the shelf failed while a text was read from it
abbrev pub SourceFails : Held → Source → ℕ → ℕ → Type 0
SourceFails held (made text) before now = ⊥
SourceFails held (stored name) before now = ReadFails held name before now

-- a text was read: some text is the source's, and it passes, or this stops the run
abbrev pub IsTextRead : Held → Source → Stop → (List ℕ → Option Stop) → ℕ → ℕ → Result (List ℕ) Stop → Type 0
IsTextRead held source fault why before now result = (text : Option (List ℕ)) × IsTextOf held source text
    × Ends (stop_in fault why text) (λ b. text ≡ Some b) (λ s. s ≡ fault) before now result

-- over every shelf: the table is accepted with some text, which is the one that the shelf tells where it tells any
pub record HasTable (r : Request) (held : Held) : Type 0 where
  pub table : Option (List ℕ)
  pub table_is : IsTextOf held (table_source r.table) table
  pub accepted : AcceptsTable r table

-- a stop that the table can be the cause of, and one that the batch can be the cause of
abbrev pub IsOfTable : Stop → Type 0
IsOfTable s = (s ≢ stop.Usage) × (s ≢ stop.BatchFault)

abbrev pub IsOfBatch : Stop → Type 0
IsOfBatch s = (s ≢ stop.Usage) × (s ≢ stop.TableFault)

-- ---- inputs

-- the table of a text, and how many frames it is read through
pub record IsTable (r : Request) (text : Option (List ℕ)) (table : Loaded) (frames : ℕ) : Type 0 where
  pub bytes : List ℕ
  pub text_is : text ≡ Some bytes
  pub loaded : IsLoaded (table_records bytes) table.table table.dicts.items
  pub places : All (λ c. places_of c.kind ≤ MOST_PLACES) table.table.columns
  pub frames_are : frames ≡ frames_given r.workers r.frames r.layout (length table.table.columns)

-- what the statements of a text come to over a table
pub record IsBatch (text : Option (List ℕ)) (table : Loaded) (outcomes : List Outcome) : Type 0 where
  pub bytes : List ℕ
  pub text_is : text ≡ Some bytes
  pub come : ComeTo table.table.columns table.dicts.items (statements_in bytes) outcomes

-- what a request gives a run, with these texts of its table and its batch
pub record AreInputs (r : Request) (table batch : Option (List ℕ)) (i : Inputs) : Type 0 where
  pub workers : i.options.workers ≡ r.workers
  pub per : i.options.per ≡ r.per
  pub layout : i.options.layout ≡ r.layout
  pub parts : i.options.parts ≡ r.parts
  pub summary : i.summary ≡ r.summary
  pub trace : i.trace ≡ r.trace
  pub table_is : IsTable r table i.loaded i.options.frames
  pub batch_is : IsBatch batch i.loaded i.outcomes.items

-- these texts were kept
pub record AreKept (table batch : Option (List ℕ)) (texts : ReadTexts) : Type 0 where
  pub table_is : table ≡ Some texts.table
  pub batch_is : batch ≡ Some texts.batch
  pub table_within : length texts.table ≤ MOST_TEXT_BYTES
  pub batch_within : length texts.batch ≤ MOST_BATCH_BYTES

-- over every shelf: some texts were read, which are those that it tells where it tells any, and they decide
pub record IsReadWith {T : Type 0} (Is : Option (List ℕ) → Option (List ℕ) → T → Type 0) (r : Request) (held : Held)
    (before now : ℕ) (result : Result T Stop) : Type 0 where
  pub table : Option (List ℕ)
  pub batch : Option (List ℕ)
  pub table_is : IsTextOf held (table_source r.table) table
  pub batch_is : IsTextOf held (batch_source r.batch) batch
  pub ends : Ends (first_stop r table batch) (Is table batch) (IsReadFault r table) before now result

-- where the shelf tells its files: what they give a run, or why it stops
abbrev pub EndsOver : Request → (List ℕ → Option (List ℕ)) → ℕ → ℕ → Result Inputs Stop → Type 0
EndsOver r files before now result =
    let table = text_in (table_source r.table) files in
    let batch = text_in (batch_source r.batch) files in
    Ends (first_stop r table batch) (AreInputs r table batch) (IsReadFault r table) before now result

-- they give a run these inputs
abbrev pub IsRead : Request → Held → ℕ → ℕ → Result Inputs Stop → Type 0
IsRead r held before now result = IsReadWith (AreInputs r) r held before now result

-- and they are kept
abbrev pub IsReadAndKept : Request → Held → ℕ → ℕ → Result (Inputs × ReadTexts) Stop → Type 0
IsReadAndKept r held before now result = IsReadWith
    (λ table batch p. AreInputs r table batch p.0 × AreKept table batch p.1) r held before now result
