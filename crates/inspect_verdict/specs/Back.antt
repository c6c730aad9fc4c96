-- THE WAY BACK: what a run prints with its trace is judged legal.
use Rattle.std.specs.Prelude.{◌≡◌, ◌≤◌, true, false, ℕ, Bool, List, Option, Some, None, is_some, length, map}
use Rattle.std.specs.List.{AllByRecursion}
use Rattle.coop_outside.specs.Causes.{Rose}
use Rattle.table_core.specs.Value.{row_values}
use Rattle.command_words.specs.Options.{Request}
use Rattle.scan_story.specs.Setting.{first_cursor}
use Rattle.scan_story.specs.Views.{past}
use Rattle.batch_ends.specs.Lost.{Tells}
use Rattle.query_gather.specs.declared.answer.Answer.{Answer}
use Rattle.run_stops.specs.Outcomes.{ComeTo}
use Rattle.run_output.specs.Outcomes.{losses}
use Rattle.run_output.specs.Output.{IsOutput}
use Rattle.run_inputs.specs.Ending.{AreInputs, IsTextOf}
use Rattle.run_inputs.specs.Order.{first_stop}
use Rattle.run_inputs.specs.Sources.{batch_source, table_source}
use Rattle.run_inputs.specs.declared.inputs.Inputs.{Inputs}
use Rattle.run_ends.specs.Boxed.{KeepsPromisesOn}
use Rattle.run_ends.specs.Devices.{DepotAt, OverShelf, OverSink}
use Rattle.run_ends.specs.Did.{Did}
use Rattle.run_ends.specs.Ending.{IsWritten}
use Rattle.run_ends.specs.Jobs.{alone}
use Rattle.run_ends.specs.OverDevices.{Devices}
use Rattle.run_ends.specs.Policies.{PolicyAt}
use Rattle.run_ends.specs.Promises.{KeepsPromises}
use Rattle.run_ends.specs.Running.{IsRunOf, Text, shape_in}
use Rattle.run_ends.specs.Runs.{DidRuns}
use Rattle.run_ends.specs.Tasks.{totals_of}
use Rattle.run_ends.specs.Work.{Work}
use Rattle.inspect_verdict.specs.Told.{IsRunTold}
use Rattle.inspect_verdict.specs.Verdict.{IsVerdict}
use Rattle.inspect_verdict.specs.Words.{IsWithin}
use Rattle.inspect_verdict.specs.declared.verdict.Verdict.{Verdict}
use Rattle.inspect_verdict.specs.declared.verdict.Verdict.TheVariants as verdict

-- a depot such as the words name: a scratch file's may be any; that in memory tells what it holds, and its count of
-- faults didn't rise
abbrev pub KeepsAs : Bool → DepotAt → DepotAt → Type 0
KeepsAs true old new = Unit {0}
KeepsAs false old new = Tells old.held × (Rose old.faults new.faults → ⊥)

-- what a run printed is sound: its answers are those over the table, and each damaged word lies within its piece
pub record IsSound (i : Inputs) (w : Work) (answers : List Answer) (o : Text) : Type 0 where
  pub output : (texts : List (List ℕ)) → ComeTo i.loaded.table.columns i.loaded.dicts.items texts i.outcomes.items
      → IsOutput i.loaded.table.columns (map (row_values i.loaded.dicts.items) i.loaded.table.rows) texts
      (losses i.outcomes.items answers) (totals_of i.summary w.story (length i.loaded.table.rows))
      (Some w.story) o.0 o.1
  pub within : AllByRecursion (IsWithin (shape_in i)) (past w.story)

-- the verdict is Legal
abbrev pub IsLegal : Verdict → Type 0
IsLegal (verdict.Legal entries reads apart counts) = Unit {0}
IsLegal _ = ⊥

-- WHAT A RUN PRINTED of a request, over a shelf and a sink, is judged legal: it read some texts, ran with what they
-- give, and wrote a text. Where this is sound, as it is over each depot that tells what it holds, it tells the run, and
-- each verdict on it is Legal
pub record IsJudgedBack (r : Request) (shelf : OverShelf) (sink : OverSink) (w : Work) : Type 0 where
  pub table : Option (List ℕ)
  pub batch : Option (List ℕ)
  pub table_is : IsTextOf shelf.held (table_source r.table) table
  pub batch_is : IsTextOf shelf.held (batch_source r.batch) batch
  pub accepted : first_stop r table batch ≡ None
  pub given : Inputs
  pub is_given : AreInputs r table batch given
  pub text : Text
  pub run : IsRunOf given w text
  pub written : IsWritten text.1 sink
  pub sound : Tells w.old.held → IsSound given w run.answers text
  pub told : IsSound given w run.answers text → IsRunTold given w.policy (is_some r.scratch) text.1 w.story
  pub legal : IsSound given w run.answers text
      → (v : Verdict) → IsVerdict given w.policy (is_some r.scratch) text.1 v → IsLegal v

-- a run with a policy keeps its promises, and ended with 0 or 1 with its trace asked for; its policy began with the
-- first cursor, and its depot is one such as the words name
pub record HasPrinted (r : Request) (over : Devices) (did : Did) : Type 0 where
  pub promises : KeepsPromises (Some r) over did
  pub ended : did.status ≤ 1
  pub traced : r.trace ≡ true
  pub first : did.policy.cursor ≡ first_cursor did.policy.name
  pub keeps : KeepsAs (is_some r.scratch) over.depot.old over.depot.new

-- the same of a run that was handed policies in boxes, and took this one
pub record HasPrintedOn (r : Request) (p : PolicyAt) (over : Devices) (did : DidRuns) : Type 0 where
  pub promises : KeepsPromisesOn (alone r p) over did
  pub ended : did.status ≤ 1
  pub traced : r.trace ≡ true
  pub first : p.cursor ≡ first_cursor p.name
  pub keeps : KeepsAs (is_some r.scratch) over.depot.old over.depot.new
