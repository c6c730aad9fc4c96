-- What the answers to the statements of a batch leave unanswered.
use Rattle.std.specs.Prelude.{Bool, true, false, List, [], ◌∷◌, Option, Some, None}
use Rattle.query_gather.specs.declared.answer.Answer.{Answer}
use Rattle.query_gather.specs.declared.answer.Answer.TheVariants.{Rows, Picked, Overflow, Stopped}
use Rattle.scan_story.specs.declared.cause.Cause.{Cause}
use Rattle.run_stops.specs.declared.outcome.Outcome.{Outcome}
use Rattle.run_stops.specs.declared.outcome.Outcome.TheVariants.{Planned, Refused}

-- why a query was stopped, where it was
abbrev pub loss_of : Answer → Option Cause
loss_of (Stopped why) = Some why
loss_of _ = None

-- for each statement, why its query was stopped, where it has one that was
abbrev pub losses : List Outcome → List Answer → List (Option Cause)
losses [] answers = []
losses (Planned p ∷ outcomes) [] = []
losses (Planned p ∷ outcomes) (a ∷ answers) = loss_of a ∷ losses outcomes answers
losses (Refused why ∷ outcomes) answers = None ∷ losses outcomes answers

-- whether the answer has rows to print
abbrev pub has_rows : Answer → Bool
has_rows (Rows rows) = true
has_rows (Picked rows) = true
has_rows (Overflow item total) = false
has_rows (Stopped why) = false
