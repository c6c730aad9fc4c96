-- Statements one after another.
use Rattle.std.proofs.Common.{◌∷◌, [], ◌++◌, List}
use Rattle.std.specs.List.{AllByRecursion}
use Rattle.table_core.specs.declared.cell.Cell.{Cell}
use Rattle.sql_bind.specs.declared.plan.Plan.{Plan}
use Rattle.query_gather.specs.declared.answer.Answer.{Answer}
use Rattle.run_stops.specs.Outcomes.{plans_of}
use Rattle.run_stops.specs.declared.outcome.Outcome.{Outcome}
use Rattle.run_stops.specs.declared.outcome.Outcome.TheVariants as outcome
use Rattle.inspect_verdict.specs.Plain.{ArePlain}

pub plans_head : (P : Plan → Type 0) (o : Outcome) (more : List Outcome) → AllByRecursion P (plans_of (o ∷ more)) → AllByRecursion P (plans_of (o ∷ []))
plans_head P (outcome.Planned p) more all = (all.0, tt)
plans_head P (outcome.Refused why) more all = tt

-- the answer to one statement, before those to the others
pub plain_more : (rows : List (List Cell)) (o : Outcome) (more : List Outcome) (added rest : List Answer) → ArePlain rows (plans_of (o ∷ [])) added → ArePlain rows (plans_of more) rest
    → ArePlain rows (plans_of (o ∷ more)) (added ++ rest)
plain_more rows (outcome.Planned p) more [] rest one all = absurd one
plain_more rows (outcome.Planned p) more (a ∷ []) rest one all = (one.0, all)
plain_more rows (outcome.Planned p) more (a ∷ b ∷ added) rest one all = absurd one.1
plain_more rows (outcome.Refused why) more [] rest one all = all
plain_more rows (outcome.Refused why) more (a ∷ added) rest one all = absurd one
