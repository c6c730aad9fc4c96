-- Which queries were stopped, by a story and by the lines that stand for their answers.
use Rattle.std.specs.Prelude.{◌-◌, false, ℕ, Bool, List, [], ◌∷◌, Option, Some, None, slice_index_or, if◌then◌else◌}
use Rattle.scan_story.specs.Views.{History}
use Rattle.scan_story.specs.declared.cause.Cause.{Cause}
use Rattle.scan_story.specs.declared.cause.Cause.TheVariants as cause
use Rattle.query_gather.specs.declared.answer.Answer.{Answer}
use Rattle.query_gather.specs.declared.answer.Answer.TheVariants as answers
use Rattle.batch_plan.specs.declared.task.Task.{Task}
use Rattle.batch_ends.specs.Lost.{cause_of_query}

-- as the story says; where it doesn't stop the query, a line says that memory ran out
abbrev pub stop_for : Option Cause → Bool → Option Cause
stop_for (Some why) line = Some why
stop_for None line = if line then Some cause.Memory else None

-- a line stands for the answer to the statement of this number
abbrev pub has_line : List Bool → ℕ → Bool
has_line lines query = slice_index_or lines (query - 1) false

abbrev pub stop_of_task : History → ℕ → List Bool → Task → Option Cause
stop_of_task h parts lines t = stop_for (cause_of_query h parts t.query) (has_line lines t.query)

-- what a query is answered that was stopped for a cause, or wasn't
abbrev pub answer_with : Option Cause → Answer → Answer
answer_with (Some why) a = answers.Stopped why
answer_with None a = a

abbrev pub answers_with : List (Option Cause) → List Answer → List Answer
answers_with [] answers = []
answers_with (stop ∷ stops) [] = []
answers_with (stop ∷ stops) (a ∷ answers) = answer_with stop a ∷ answers_with stops answers
