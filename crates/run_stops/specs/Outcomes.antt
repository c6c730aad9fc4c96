-- What the statements of a batch come to before any row is read.
use Rattle.std.specs.Prelude.{ℕ, List, [], ◌∷◌, Some}
use Rattle.std.specs.List.{AllZip}
use Rattle.table_core.specs.declared.schema.Column.{Column}
use Rattle.sql_bind.specs.declared.plan.Plan.{Plan}
use Rattle.sql_bind.specs.Statements.{IsPlanFor, TextCause}
use Rattle.run_stops.specs.declared.outcome.Outcome.{Outcome}
use Rattle.run_stops.specs.declared.outcome.Outcome.TheVariants.{Planned, Refused}

-- a statement of this text has this plan, or is refused for this cause
abbrev pub ComesTo : List Column → List (List (List ℕ)) → List ℕ → Outcome → Type 0
ComesTo columns dicts text (Planned p) = IsPlanFor text columns dicts p
ComesTo columns dicts text (Refused why) = TextCause text columns (Some why)

-- statements of these texts come to these outcomes, one each, in order
abbrev pub ComeTo : List Column → List (List (List ℕ)) → List (List ℕ) → List Outcome → Type 0
ComeTo columns dicts texts outcomes = AllZip (ComesTo columns dicts) texts outcomes

-- the plans of the statements that have one, in order
abbrev pub plans_of : List Outcome → List Plan
plans_of [] = []
plans_of (Planned p ∷ outcomes) = p ∷ plans_of outcomes
plans_of (Refused why ∷ outcomes) = plans_of outcomes
