-- What a batch prints in parts: for each statement what it prints where nothing stops it, or the line of a query that
-- was stopped.
use Rattle.std.specs.Prelude.{◌≡◌, ◌<◌, ◌+◌, ◌^◌, false, ℕ, List, [], ◌∷◌, Option, Some, None}
use Rattle.std.specs.List.{AllZip, flat_map}
use Rattle.table_core.specs.declared.schema.Column.{Column}
use Rattle.scan_story.specs.declared.cause.Cause.{Cause}
use Rattle.scan_story.specs.declared.cause.Cause.TheVariants as cause
use Rattle.query_gather.specs.Answer.{is_stopped}
use Rattle.query_gather.specs.declared.answer.Answer.{Answer}
use Rattle.query_gather.specs.declared.answer.Answer.TheVariants as answers
use Rattle.sql_bind.specs.declared.plan.Plan.{Plan}
use Rattle.sql_bind.specs.declared.statement.StatementRefusal.{StatementRefusal}
use Rattle.run_output.specs.Answers.{answer_printed, printed}
use Rattle.run_output.specs.Printed.{text_in}
use Rattle.run_output.specs.Refusals.{refusal_head, refusal_line, statement_words, stop_words}
use Rattle.run_stops.specs.declared.outcome.Outcome.{Outcome}
use Rattle.run_stops.specs.declared.outcome.Outcome.TheVariants as outcome
use Rattle.inspect_verdict.specs.Parts.{MayStand, texts_of}
use Rattle.inspect_verdict.specs.declared.part.Part.{Part}

-- the part of a query: what its answer prints, or the line of a refusal of its number
abbrev pub planned_part : List Column → List (List (List ℕ)) → ℕ → Plan → Answer → Part
planned_part columns dicts n p a = record {
  text = text_in (answer_printed columns dicts n p a);
  head = Some (refusal_head n);
}

-- the part of a statement that is refused for its text: its line alone
abbrev pub refused_part : ℕ → StatementRefusal → Part
refused_part n why = record { text = refusal_line n (statement_words why); head = None }

-- THE PARTS of statements with these answers, the first of which has this number: each one that has a plan takes the
-- next answer
abbrev pub parts_in : List Column → List (List (List ℕ)) → ℕ → List Outcome → List Answer → List Part
parts_in columns dicts n [] answers = []
parts_in columns dicts n (outcome.Planned p ∷ outcomes) [] = []
parts_in columns dicts n (outcome.Planned p ∷ outcomes) (a ∷ answers) = planned_part columns dicts n p a
    ∷ parts_in columns dicts (n + 1) outcomes answers
parts_in columns dicts n (outcome.Refused why ∷ outcomes) answers = refused_part n why
    ∷ parts_in columns dicts (n + 1) outcomes answers

-- the numbers of a cause are those that an entry may have
abbrev pub FitsCause : Cause → Type 0
FitsCause (cause.Read before after) = Unit {0}
FitsCause (cause.Damage piece word) = piece < 2 ^ 32
FitsCause cause.Memory = Unit {0}

-- an answer is the plain one, or that the query was stopped
abbrev pub IsPlainOrStopped : Answer → Answer → Type 0
IsPlainOrStopped plain (answers.Stopped why) = (is_stopped plain ≡ false) × FitsCause why
IsPlainOrStopped plain answer = answer ≡ plain

-- the words of the line that stands for a query that was stopped; none for one that is answered
abbrev pub words_for : Answer → Option (List ℕ)
words_for (answers.Stopped why) = Some (stop_words why)
words_for _ = None

-- for each statement these words; a statement that is refused for its text has its own line
abbrev pub words_of : List Outcome → List Answer → List (Option (List ℕ))
words_of [] answers = []
words_of (outcome.Planned p ∷ outcomes) [] = []
words_of (outcome.Planned p ∷ outcomes) (a ∷ answers) = words_for a ∷ words_of outcomes answers
words_of (outcome.Refused why ∷ outcomes) answers = None ∷ words_of outcomes answers

-- for these answers such lines may stand for the parts, and with them the parts are what the statements print, the
-- first of which has this number
pub record ArePartsFor (columns : List Column) (dicts : List (List (List ℕ))) (n : ℕ) (outcomes : List Outcome)
    (parts : List Part) (answers : List Answer) : Type 0 where
  pub may : AllZip MayStand parts (words_of outcomes answers)
  pub text : texts_of parts (words_of outcomes answers) ≡ flat_map text_in (printed columns dicts n outcomes answers)

-- so it is for all answers that are these plain ones, or that their queries were stopped
abbrev pub ArePartsFrom : List Column → List (List (List ℕ)) → ℕ → List Outcome → List Answer → List Part → Type 0
ArePartsFrom columns dicts n outcomes plain parts = (answers : List Answer) → AllZip IsPlainOrStopped plain answers
    → ArePartsFor columns dicts n outcomes parts answers
