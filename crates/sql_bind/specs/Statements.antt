-- Why a statement has no plan, and which plan it has.
use Rattle.std.specs.Prelude.{◌≡◌, ℕ, length, List, Option, Some, None}
use Rattle.table_core.specs.declared.schema.Column.{Column}
use Rattle.sql_tokens.specs.declared.refusal.TextRefusal.TheVariants as text
use Rattle.sql_text.specs.Grammar.{QueryTree}
use Rattle.sql_text.specs.Queries.{HasQuery, IsRefused}
use Rattle.sql_bind.specs.declared.refusal.BindRefusal.TheVariants as bind
use Rattle.sql_bind.specs.declared.statement.StatementRefusal.{StatementRefusal}
use Rattle.sql_bind.specs.declared.statement.StatementRefusal.TheVariants as statement
use Rattle.sql_bind.specs.declared.plan.Plan.{Plan}
use Rattle.sql_bind.specs.Refusals.{refusal_of}
use Rattle.sql_bind.specs.Plans.{IsPlanOf}
use Rattle.sql_bind.specs.Bounds.{HasTruth, IsBound}
use Rattle.sql_bind.specs.Reads.{ReadsItsColumns}
use Rattle.sql_bind.specs.Meaning.{MeansQuery}

-- THE CAUSE for which a text is refused over these columns, if there is one: why it is read as no query, or else why
-- its query isn't bound. Out of memory is none
abbrev pub TextCause : List ℕ → List Column → Option StatementRefusal → Type 0
TextCause bytes columns None = (q : QueryTree) × HasQuery bytes q × (refusal_of columns q ≡ None)
TextCause bytes columns (Some (statement.Text text.Memory)) = ⊥
TextCause bytes columns (Some (statement.Text e)) = IsRefused bytes e
TextCause bytes columns (Some (statement.Query e)) = (q : QueryTree) × HasQuery bytes q
    × (refusal_of columns q ≡ Some e)

-- what is refused has this cause, unless memory ran out
abbrev pub IsRefusedFor : List ℕ → List Column → StatementRefusal → Type 0
IsRefusedFor bytes columns (statement.Text text.Memory) = Unit {0}
IsRefusedFor bytes columns (statement.Query bind.Memory) = Unit {0}
IsRefusedFor bytes columns e = TextCause bytes columns (Some e)

-- the plan of a text that has no cause to be refused: it means what the text's query means
pub record IsPlanFor (bytes : List ℕ) (columns : List Column) (dicts : List (List (List ℕ))) (p : Plan) : Type 0 where
  pub query : QueryTree
  pub text : HasQuery bytes query
  pub passes : refusal_of columns query ≡ None
  pub plan : IsPlanOf columns query p
  pub cond : IsBound columns dicts query.cond p.cond
  pub truth : HasTruth columns dicts query.cond p.cond
  pub reads : ReadsItsColumns (length columns) p
  pub means : MeansQuery columns dicts query p
