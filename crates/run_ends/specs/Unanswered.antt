-- Why a comparison ends with 1: a statement has no rows to print, in the first run that ends with 1.
use Rattle.std.specs.Prelude.{◌≢◌, ◌⊎◌, ◌+◌, ℕ, List, [], ◌∷◌, Option, Some, ⊤}
use Rattle.scan_story.specs.Views.{History, past}
use Rattle.query_gather.specs.Answer.{IsLostSum}
use Rattle.query_gather.specs.declared.answer.Answer.{Answer}
use Rattle.query_gather.specs.declared.answer.Answer.TheVariants as answer
use Rattle.batch_ends.specs.Lost.{IsLostBy}
use Rattle.sql_bind.specs.declared.plan.Plan.{Plan}
use Rattle.command_words.specs.Options.{Request}
use Rattle.run_stops.specs.declared.outcome.Outcome.{Outcome}
use Rattle.run_stops.specs.declared.outcome.Outcome.TheVariants as outcome
use Rattle.run_inputs.specs.Ending.{IsTextOf}
use Rattle.run_inputs.specs.Sources.{batch_source, table_source}
use Rattle.run_inputs.specs.declared.inputs.Inputs.{Inputs}
use Rattle.run_ends.specs.Devices.{DepotAt, OverShelf}
use Rattle.run_ends.specs.Compared.{Over}
use Rattle.run_ends.specs.Policies.{PolicyAt}
use Rattle.run_ends.specs.PolicyRuns.{IsMade}
use Rattle.run_ends.specs.declared.policy_run.PolicyRun.{PolicyRun}

-- the answer to a plan, the query of this number, has no rows: one of its sums is no number of 64 bits; or the query
-- was stopped, for the cause that the story tells of its scans, or, where it tells none, out of memory
abbrev pub HasNoRows : History → ℕ → ℕ → Plan → Answer → Type 0
HasNoRows h parts n p (answer.Overflow item total) = IsLostSum p item total
HasNoRows h parts n p (answer.Stopped why) = IsLostBy h parts n (Some why)
HasNoRows h parts n p _ = ⊥

-- some statement has no rows: its text is refused, or the answer to its query has none; the first statement has this
-- number
abbrev pub SomeHasNoRows : History → ℕ → ℕ → List Outcome → List Answer → Type 0
SomeHasNoRows h parts n [] answers = ⊥
SomeHasNoRows h parts n (outcome.Refused why ∷ outcomes) answers = ⊤
SomeHasNoRows h parts n (outcome.Planned p ∷ outcomes) [] = ⊥
SomeHasNoRows h parts n (outcome.Planned p ∷ outcomes) (a ∷ answers) = HasNoRows h parts n p a
    ⊎ SomeHasNoRows h parts (n + 1) outcomes answers

-- the run of a policy is made with 1, and some statement of it has no rows
pub record LeavesUnanswered (i : Inputs) (p : PolicyAt) (old new : DepotAt) (run : PolicyRun) : Type 0 where
  pub made : IsMade i p old new run 1
  pub some : SomeHasNoRows (past run.story.items) i.options.parts 1 i.outcomes.items made.is_run.answers

-- the run of a policy is made with another status than 1
abbrev pub IsMadeWithout : Inputs → PolicyAt → DepotAt → DepotAt → PolicyRun → Type 0
IsMadeWithout i p old new run = (status : ℕ) × (status ≢ 1) × IsMade i p old new run status

-- of these runs, one after another, the first that is made with 1 leaves a statement unanswered
abbrev pub SomeLeavesUnanswered : Request → Option (List ℕ) → Option (List ℕ) → List PolicyAt → DepotAt → List PolicyRun
    → Type 0
SomeLeavesUnanswered r table batch (p ∷ ps) old (run ∷ runs) = (between : DepotAt) ×
    (Over r table batch (λ i. LeavesUnanswered i p old between run)
    ⊎ (Over r table batch (λ i. IsMadeWithout i p old between run)
    × SomeLeavesUnanswered r table batch ps between runs))
SomeLeavesUnanswered _ _ _ _ _ _ = ⊥

-- WHY A COMPARISON ENDS WITH 1, over every shelf and every depot: with some texts, which are those that the shelf tells
-- where it tells any, some run ends with 1, the first one that does, and leaves a statement unanswered
pub record HasCause (r : Request) (shelf : OverShelf) (ps : List PolicyAt) (old : DepotAt)
    (runs : List PolicyRun) : Type 0 where
  pub table : Option (List ℕ)
  pub batch : Option (List ℕ)
  pub table_is : IsTextOf shelf.held (table_source r.table) table
  pub batch_is : IsTextOf shelf.held (batch_source r.batch) batch
  pub some : SomeLeavesUnanswered r table batch ps old runs
