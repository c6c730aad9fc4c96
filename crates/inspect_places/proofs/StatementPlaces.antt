-- A text has one list of tokens.
use Rattle.std.proofs.Common.{ℕ, List, Result, Ok, Err, subst}
use Rattle.std.specs.Prelude.{IfOk}
use Rattle.table_sets.specs.declared.memory.Memory.{Memory}
use Rattle.table_core.specs.declared.schema.Column.{Column}
use Rattle.sql_tokens.specs.Tokens.{HasTokens}
use Rattle.sql_tokens.specs.declared.token.Token as tokens
use Rattle.sql_tokens.proofs.TokenLists.{one_list}
use Rattle.sql_bind.specs.declared.statement.StatementRefusal.{StatementRefusal}
use Rattle.inspect_places.specs.declared.place.Place.{Place}
use Rattle.inspect_places.specs.Refusals.{IsRefusalPlace}
use Rattle.inspect_places.specs.Statements.{IsStatementPlace}

module _ (bytes : List ℕ) (columns : List Column) (e : StatementRefusal) (all : List tokens.Token) (has : HasTokens 0 bytes all) where
  pub statement_is : (r : Result Place Memory) → IfOk r (λ p. IsRefusalPlace bytes columns all e p) → IfOk r (λ p. IsStatementPlace bytes columns e p)
  statement_is (Ok p) h = record { lexed = λ us t. subst (λ vs. IsRefusalPlace bytes columns vs e p) (one_list 0 bytes all us has t) h; none = λ no. absurd (no all has) }
  statement_is (Err m) h = h
