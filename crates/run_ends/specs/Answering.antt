-- What a batch comes to before its output is made.
use Rattle.std.specs.Prelude.{◌≡◌, ◌⊎◌, List, [], Option, Some, None}
use Rattle.std.specs.List.{AllZip}
use Rattle.csv_load.specs.Judged.{Fields}
use Rattle.table_core.specs.declared.schema.Column.{Column}
use Rattle.scan_story.specs.declared.entry.Entry.{Entry}
use Rattle.query_gather.specs.Answer.{IsAnswer}
use Rattle.query_gather.specs.declared.answer.Answer.{Answer}
use Rattle.run_inputs.specs.declared.inputs.Inputs.{Inputs}
use Rattle.batch_ends.specs.Lost.{Tells}
use Rattle.batch_ends.specs.declared.ran.Ran.{Ran}
use Rattle.batch_ends.specs.declared.taken.Taken.{Taken}
use Rattle.run_stops.specs.Outcomes.{plans_of}
use Rattle.run_stops.specs.declared.outcome.Outcome.{Outcome}
use Rattle.run_stops.specs.declared.stop.Stop.{Stop}
use Rattle.run_stops.specs.declared.stop.Stop.TheVariants as stop
use Rattle.run_ends.specs.Running.{AreAnswers, IsIdle, IsNotStored}
use Rattle.run_ends.specs.Work.{Work}

-- the story and the chunks taken; none where no worker ran
abbrev pub story_in : Option Ran → List Entry
story_in None = []
story_in (Some ran) = ran.story.items

abbrev pub taken_in : Option Ran → List Taken
taken_in None = []
taken_in (Some ran) = ran.taken.items

-- no worker ran: memory ran out, or a piece wasn't stored
abbrev pub IsUnanswered : Inputs → Work → Stop → Type 0
IsUnanswered i w s = ((s ≡ stop.Memory) × IsIdle w) ⊎ IsNotStored i w s

-- a batch was answered: with the answers stand its statements, the columns of its table and their dictionaries; where
-- the depot tells what it holds each answer is the one over the whole table
pub record IsAnswered (i : Inputs) (w : Work) (outcomes : List Outcome) (answers : List Answer) (columns : List Column)
    (dicts : List Fields) : Type 0 where
  pub outcomes_are : outcomes ≡ i.outcomes.items
  pub columns_are : columns ≡ i.loaded.table.columns
  pub dicts_are : dicts ≡ i.loaded.dicts.items
  pub are : AreAnswers i w answers
  pub right : Tells w.old.held → AllZip (λ p a. IsAnswer p i.loaded.table.rows a) (plans_of i.outcomes.items) answers
