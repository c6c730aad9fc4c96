-- How a run ends: its status, and what is written.
use Rattle.std.specs.Prelude.{◌≡◌, ◌<◌, ◌⊎◌, ◌++◌, ℕ, List, length, replicate, take}
use Rattle.std.specs.Prelude.{IsPermutation, Option, Some, None, Result, Ok, Err, All}
use Rattle.coop_outside.specs.Causes.{Rose}
use Rattle.coop_outside.specs.Taken.{grown}
use Rattle.command_words.specs.Options.{Request}
use Rattle.csv_load.specs.Meaning.{Values, table_of}
use Rattle.csv_load.specs.Rows.{table_records}
use Rattle.filter_zones.specs.Possible.{needed}
use Rattle.scan_story.specs.Views.{past}
use Rattle.scan_story.specs.declared.cause.Cause.{Cause}
use Rattle.run_stops.specs.Stops.{line_of, status_of}
use Rattle.run_stops.specs.declared.stop.Stop.{Stop}
use Rattle.run_stops.specs.declared.stop.Stop.TheVariants as stop
use Rattle.run_inputs.specs.Ending.{AreInputs, HasTable, SourceFails}
use Rattle.run_inputs.specs.Order.{first_stop}
use Rattle.run_inputs.specs.Sources.{batch_source, table_source, text_in}
use Rattle.run_inputs.specs.Statements.{statements_in}
use Rattle.run_inputs.specs.declared.inputs.Inputs.{Inputs}
use Rattle.batch_plan.specs.declared.task.Task.{Task}
use Rattle.run_output.specs.Output.{IsOutput}
use Rattle.run_ends.specs.Devices.{OverShelf, OverSink}
use Rattle.run_ends.specs.Losses.{AreLostBy, OnlyForMemory, SomeForMemory}
use Rattle.run_ends.specs.Running.{IsWorked, Text, delivered_to, queries_in, zones_in}
use Rattle.run_ends.specs.Tasks.{totals_of, trace_of}
use Rattle.run_ends.specs.Work.{Work}

-- the sink took the whole text
abbrev pub IsWritten : List ℕ → OverSink → Type 0
IsWritten text sink = sink.new ≡ grown sink.old text

-- the sink took less than the whole text, since it failed
abbrev pub IsCutShort : List ℕ → OverSink → Type 0
IsCutShort text sink = (k : ℕ) × (k < length text) × (sink.new ≡ grown sink.old (take k text))
    × Rose sink.before sink.now

-- the line of a stop is written, or a prefix of it
abbrev pub IsLineWritten : Stop → OverSink → Type 0
IsLineWritten s sink = IsWritten (line_of s) sink ⊎ IsCutShort (line_of s) sink

-- what a decision writes, and the status that is answered: the whole text and its status, or a prefix of it and 6;
-- the stop's line, or a prefix of it, and the stop's status
abbrev pub Prints : Result Text Stop → ℕ → OverSink → Type 0
Prints (Ok o) status sink = ((status ≡ o.0) × IsWritten o.1 sink) ⊎ ((status ≡ 6) × IsCutShort o.1 sink)
Prints (Err s) status sink = (status ≡ status_of s) × IsLineWritten s sink

-- the table of values of a text
abbrev pub values_of : List ℕ → Values
values_of table = table_of (table_records table)

-- THE HEADLINE, over files and a depot that tells what it holds, of a text and the status that goes with it
pub record Headline (r : Request) (files : List ℕ → Option (List ℕ)) (w : Work) (status : ℕ)
    (text : List ℕ) : Type 0 where
  -- for every table and batch, number of workers and buffer of at least three frames per worker plus one, in every
  -- interleaving that ends:
  pub table : List ℕ
  pub table_is : text_in (table_source r.table) files ≡ Some table
  pub batch : List ℕ
  pub batch_is : text_in (batch_source r.batch) files ≡ Some batch
  pub given : Inputs
  pub is_given : AreInputs r (Some table) (Some batch) given
  -- each query not refused prints its SQL meaning over the whole table; why a query is lost is what the story says of
  -- its scans, or out of memory; a statement that is refused for its text is no loss
  pub losses : List (Option Cause)
  pub lost : AreLostBy (past w.story) r.parts 1 given.outcomes.items losses
  pub output : IsOutput (values_of table).columns (values_of table).rows (statements_in batch) losses
      (totals_of r.summary w.story (length (values_of table).rows))
      (trace_of r.trace w.story) status text
  -- its scans took each chunk that it needs exactly once, from frames that nobody refilled meanwhile; and every
  -- recorded load, delivery and eviction was of greatest relevance among those that the policy allowed
  pub worked : IsWorked given w

-- the answers are written, and no query is lost unless out of memory
pub record WritesAll (r : Request) (files : List ℕ → Option (List ℕ)) (w : Work) (status : ℕ)
    (sink : OverSink) : Type 0 where
  pub text : List ℕ
  pub headline : Headline r files w status text
  pub lost : All OnlyForMemory headline.losses
  pub written : IsWritten text sink

-- ---- parts

-- THE ANSWERS ALONE of a batch over a table, where no query is lost: they know of no workers, frames, chunks, layout,
-- parts and policy
abbrev pub AreAnswersAlone : List ℕ → List ℕ → ℕ → List ℕ → Type 0
AreAnswersAlone table batch status text =
    IsOutput (values_of table).columns (values_of table).rows (statements_in batch)
    (replicate (length (statements_in batch)) None) None None status text

-- a text is the answers alone and what is shown behind them, and each chunk that a query needs was delivered to exactly
-- one of its scans
pub record IsForAnyParts (table batch : List ℕ) (i : Inputs) (w : Work) (status : ℕ) (text : List ℕ) : Type 0 where
  pub alone : List ℕ
  pub rest : List ℕ
  pub begins : text ≡ alone ++ rest
  pub answers : AreAnswersAlone table batch status alone
  pub once : All (λ (t : Task). IsPermutation (needed t.plan.cond (zones_in i))
      (delivered_to w.story i.options.parts t.query i.options.parts)) (queries_in i)

-- the output is written; memory ran out for a query, or the answers are those of any number of parts
pub record WritesForAnyParts (r : Request) (files : List ℕ → Option (List ℕ)) (w : Work) (status : ℕ)
    (sink : OverSink) : Type 0 where
  pub text : List ℕ
  pub headline : Headline r files w status text
  pub written : IsWritten text sink
  pub alike : SomeForMemory headline.losses ⊎ IsForAnyParts headline.table headline.batch headline.given w status text

-- ---- stops

-- the first stop of a request over files, if there is one
abbrev pub stop_over : Request → (List ℕ → Option (List ℕ)) → Option Stop
stop_over r files = first_stop r (text_in (table_source r.table) files) (text_in (batch_source r.batch) files)

-- this is a stop of the status
abbrev pub HasStatus : ℕ → Option Stop → Type 0
HasStatus status why = (s : Stop) × (why ≡ Some s) × (status_of s ≡ status)

-- 4, since the shelf failed while the table was read
pub record FailsAtTable (r : Request) (shelf : OverShelf) (sink : OverSink) (status : ℕ) : Type 0 where
  pub status_is : status ≡ 4
  pub fails : SourceFails shelf.held (table_source r.table) shelf.before shelf.now
  pub line : IsLineWritten stop.TableFault sink

-- 4, since the shelf failed while the batch was read, behind a table that is accepted and has enough frames
pub record FailsAtBatch (r : Request) (shelf : OverShelf) (sink : OverSink) (status : ℕ) : Type 0 where
  pub status_is : status ≡ 4
  pub fails : SourceFails shelf.held (batch_source r.batch) shelf.before shelf.now
  pub behind : HasTable r shelf.held
  pub line : IsLineWritten stop.BatchFault sink

-- 4, since the shelf failed while the one or the other was read
abbrev pub FailsAtEither : Request → OverShelf → OverSink → ℕ → Type 0
FailsAtEither r shelf sink status = FailsAtTable r shelf sink status ⊎ FailsAtBatch r shelf sink status

-- out of memory a run ends with 7, and where the shelf counted a fault and failed so, with 4
abbrev pub IsExcused : Type 0 → ℕ → OverShelf → Type 0
IsExcused Fails status shelf = (status ≡ 7) ⊎ (Rose shelf.before shelf.now × Fails)

-- a run ends with this status exactly where its first stop has it, but out of memory and where the shelf failed so
pub record ComesExactly (due : ℕ) (why : Option Stop) (Fails : Type 0) (status : ℕ) (shelf : OverShelf) : Type 0 where
  pub only : status ≡ due → HasStatus due why
  pub always : HasStatus due why → (status ≡ due) ⊎ IsExcused Fails status shelf
