-- The queries of a batch as tasks, and what is shown behind the answers.
use Rattle.std.specs.Prelude.{◌+◌, ℕ, Bool, List, [], ◌∷◌, Option, Some, None, if◌then◌else◌}
use Rattle.scan_story.specs.declared.entry.Entry.{Entry}
use Rattle.scan_story.specs.Spent.{deliveries}
use Rattle.scan_story.specs.Views.{past}
use Rattle.batch_plan.specs.declared.task.Task.{Task}
use Rattle.run_stops.specs.declared.outcome.Outcome.{Outcome}
use Rattle.run_stops.specs.declared.outcome.Outcome.TheVariants as outcome
use Rattle.run_output.specs.declared.totals.Totals.{Totals}

-- a task for each statement that has a plan, under the statement's number; the first statement has this one
abbrev pub tasks_in : ℕ → List Outcome → List Task
tasks_in n [] = []
tasks_in n (outcome.Planned p ∷ outcomes) = record { query = n; plan = p } ∷ tasks_in (n + 1) outcomes
tasks_in n (outcome.Refused why ∷ outcomes) = tasks_in (n + 1) outcomes

-- what the summary counts beside the answers, where it is asked for: the Delivers of the story, and the rows of the
-- table
abbrev pub totals_of : Bool → List Entry → ℕ → Option Totals
totals_of summary story rows = if summary then Some (record { deliveries = deliveries (past story); rows = rows })
    else None

-- the story, where it is asked for
abbrev pub trace_of : Bool → List Entry → Option (List Entry)
trace_of trace story = if trace then Some story else None
