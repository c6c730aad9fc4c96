-- How a batch runs over a table, by what a run is given.
use Rattle.std.specs.Prelude.{◌≡◌, ◌<◌, ◌≤◌, ◌+◌, ◌*◌, ◌++◌, ℕ, zero, suc, List}
use Rattle.std.specs.Prelude.{[], length, map, All, None, IsPermutation, is_some}
use Rattle.std.specs.List.{AllZip}
use Rattle.table_core.specs.Chunk.{chunk_count}
use Rattle.table_core.specs.Value.{places_of, row_values}
use Rattle.piece_format.specs.Shape.{TableShape, frame_words, groups, pieces}
use Rattle.filter_zones.specs.Possible.{needed}
use Rattle.filter_zones.specs.declared.zone.ChunkZones.{ChunkZones}
use Rattle.table_pieces.specs.Putting.{ArePut, FailsAt}
use Rattle.table_pieces.specs.Shaping.{shape_of}
use Rattle.table_pieces.specs.Zoning.{chunk_zones}
use Rattle.scan_story.specs.declared.entry.Entry.{Entry}
use Rattle.scan_story.specs.declared.setting.PolicyName.{PolicyName}
use Rattle.scan_story.specs.declared.setting.Setting.{Setting}
use Rattle.scan_story.specs.Setting.{HasRoom}
use Rattle.scan_story.specs.Views.{past}
use Rattle.story_laws.specs.Queries.{chunks_delivered}
use Rattle.query_gather.specs.Answer.{CanBeWritten}
use Rattle.query_gather.specs.declared.answer.Answer.{Answer}
use Rattle.run_stops.specs.declared.stop.Stop.{Stop}
use Rattle.run_stops.specs.declared.stop.Stop.TheVariants as stop
use Rattle.run_inputs.specs.declared.inputs.Inputs.{Inputs}
use Rattle.batch_plan.specs.Scans.{Scan, scan_number, scans}
use Rattle.batch_plan.specs.Setting.{batch_setting}
use Rattle.batch_plan.specs.declared.task.Task.{Task}
use Rattle.batch_ends.specs.Lost.{Tells, cause_of_query}
use Rattle.batch_ends.specs.Registering.{RegistersInOrder}
use Rattle.batch_ends.specs.Story.{IsStoryOver, counts}
use Rattle.batch_ends.specs.Taken.{IsTakenBy, TookNeed}
use Rattle.batch_ends.specs.Tasks.{CanBeLoaded}
use Rattle.run_output.specs.Answers.{printed}
use Rattle.run_stops.specs.Outcomes.{ComeTo, plans_of}
use Rattle.run_output.specs.Outcomes.{losses}
use Rattle.run_output.specs.Output.{IsOutput}
use Rattle.run_output.specs.Printed.{output, status}
use Rattle.run_ends.specs.Losses.{AreLostBy}
use Rattle.run_ends.specs.Tasks.{tasks_in, totals_of, trace_of}
use Rattle.run_ends.specs.Work.{Work}

-- a status, and the text that is written with it
abbrev pub Text : Type 0
Text = ℕ × List ℕ

abbrev pub shape_in : Inputs → TableShape
shape_in i = shape_of i.loaded.table i.loaded.dicts.items i.options.layout i.options.per

abbrev pub zones_in : Inputs → List ChunkZones
zones_in i = chunk_zones (shape_in i) i.loaded.table.rows

-- a task for each statement that isn't refused
abbrev pub queries_in : Inputs → List Task
queries_in i = tasks_in 1 i.outcomes.items

-- THE SCANS of what a run is given: one for each part of each query
abbrev pub scans_in : Inputs → List Scan
scans_in i = scans i.options.workers i.options.parts (queries_in i)

-- THE SETTING of what a run is given, under a policy and its first cursor: each scan needs its part of the chunks that
-- its query needs
abbrev pub setting_in : Inputs → PolicyName → List ℕ → Setting
setting_in i name cursor = batch_setting (shape_in i) (zones_in i) (queries_in i) i.options name cursor

-- what a run is given can run: a loaded table of at most 1024 chunks of 1 to 16384 rows, at most 256 statements and
-- scans, and frames enough within the pool's limit
pub record CanRun (i : Inputs) : Type 0 where
  pub some : 1 ≤ i.options.per
  pub short : i.options.per ≤ 16384
  pub chunks : chunk_count (length i.loaded.table.rows) i.options.per ≤ 1024
  pub loaded : CanBeLoaded i.loaded.table i.loaded.dicts.items
  pub places : All (λ c. places_of c.kind ≤ 9) i.loaded.table.columns
  pub statements : (texts : List (List ℕ)) × ComeTo i.loaded.table.columns i.loaded.dicts.items texts i.outcomes.items
  pub few : length i.outcomes.items ≤ 256
  pub parts : (1 ≤ i.options.parts) × (i.options.parts ≤ 32)
  pub scans : i.options.parts * length i.outcomes.items ≤ 256
  pub workers : (1 ≤ i.options.workers) × (i.options.workers ≤ 32)
  pub room : (3 * i.options.workers + 1) * groups (shape_in i) ≤ i.options.frames
  pub frames : i.options.frames ≤ 33554432
  pub words : i.options.frames * frame_words (shape_in i) ≤ 33554432

-- the chunks that the story delivered to the first parts of a query, one part after another
abbrev pub delivered_to : List Entry → ℕ → ℕ → ℕ → List ℕ
delivered_to story parts query zero = []
delivered_to story parts query (suc n) = delivered_to story parts query n
    ++ chunks_delivered story (scan_number parts query n)

-- EACH CHUNK ONCE: the scans of a query that the story didn't stop took each chunk that the query needs exactly once
-- among them
abbrev pub TookEachOnce : List ChunkZones → ℕ → List Entry → Task → Type 0
TookEachOnce zones parts story t =
    cause_of_query (past story) parts t.query ≡ None
    → IsPermutation (needed t.plan.cond zones) (delivered_to story parts t.query parts)

-- WHAT THE WORKERS DID with what a run is given
pub record IsWorked (i : Inputs) (w : Work) : Type 0 where
  -- there are three frames for each worker and one more, counted in chunks
  pub room : HasRoom (setting_in i w.policy w.cursor)
  -- the story is legal, whole, undisturbed and bounded in the setting of this batch; each fault has its own rise of the
  -- depot's count, and the depot's gets rose by the story's reads
  pub story : IsStoryOver (setting_in i w.policy w.cursor) (is_some w.old.held) (counts w.old.gets w.old.faults)
      (counts w.new.gets w.new.faults) w.story
  -- one element for each scan, in their order, with exactly the chunks that the story delivered to it
  pub taken : AllZip (IsTakenBy w.story) (scans_in i) w.taken
  -- each scan took chunks of its part, each once, and where it ended all of them
  pub took : All (TookNeed (zones_in i) i.options.parts w.story) (scans_in i)
  -- so the scans of a query that wasn't stopped took each chunk that it needs exactly once among them
  pub once : All (TookEachOnce (zones_in i) i.options.parts w.story) (queries_in i)
  -- each worker registered its scans in the order of the batch
  pub registers : (n : ℕ) → n < i.options.workers → RegistersInOrder w.story (scans_in i) n
  -- the table's pieces are put, and stay
  pub stored : ArePut (shape_in i) i.loaded.table.rows (pieces (shape_in i)) (pieces (shape_in i)) w.old.held w.new.held

-- THE ANSWERS of a batch: each is the one to its query over the whole table, or tells why its query was stopped; over
-- every depot its rows can be written, and a sum that is told to have no number of 64 bits is one of its query, whose
-- total has none
pub record AreAnswers (i : Inputs) (w : Work) (answers : List Answer) : Type 0 where
  pub each : length answers ≡ length (plans_of i.outcomes.items)
  pub worked : IsWorked i w
  pub lost : AreLostBy (past w.story) i.options.parts 1 i.outcomes.items (losses i.outcomes.items answers)
  pub written : AllZip (CanBeWritten i.loaded.dicts.items) (plans_of i.outcomes.items) answers

-- what is printed of answers
abbrev pub text_of : Inputs → Work → List Answer → Text
text_of i w answers = let p = printed i.loaded.table.columns i.loaded.dicts.items 1 i.outcomes.items answers in
    (status p, output p (totals_of i.summary w.story (length i.loaded.table.rows)) (trace_of i.trace w.story))

-- where the depot tells what it holds, this is the output over the table's values
abbrev pub Means : Inputs → Work → List Answer → Text → Type 0
Means i w answers o = Tells w.old.held → (texts : List (List ℕ))
    → ComeTo i.loaded.table.columns i.loaded.dicts.items texts i.outcomes.items
    → IsOutput i.loaded.table.columns (map (row_values i.loaded.dicts.items) i.loaded.table.rows) texts
    (losses i.outcomes.items answers)
    (totals_of i.summary w.story (length i.loaded.table.rows)) (trace_of i.trace w.story) o.0 o.1

-- THE RUN of a batch: answers to its queries, what its workers did, and what is written of them
pub record IsRunOf (i : Inputs) (w : Work) (o : Text) : Type 0 where
  pub answers : List Answer
  pub are : AreAnswers i w answers
  pub prints : o ≡ text_of i w answers
  pub means : Means i w answers o

-- no worker ran: there is no story, and no get was made
pub record IsIdle (w : Work) : Type 0 where
  pub story : w.story ≡ []
  pub taken : w.taken ≡ []
  pub gets : w.new.gets ≡ w.old.gets
  pub later : w.old.faults ≤ w.new.faults

-- a piece wasn't stored, and a fault counted; no worker ran
pub record IsNotStored (i : Inputs) (w : Work) (s : Stop) : Type 0 where
  pub piece : ℕ
  pub stop_is : s ≡ stop.NotStored piece
  pub left : FailsAt (shape_in i) i.loaded.table.rows piece w.old.held w.new.held w.old.faults w.new.faults
  pub idle : IsIdle w
