-- The token that a refused name is.
use Rattle.std.specs.Prelude.{◌≡◌, ℕ, true, List, Option, Some, None, slice_get}
use Rattle.table_core.specs.declared.schema.Column.{Column}
use Rattle.sql_tokens.specs.Tokens.{HasTokens}
use Rattle.sql_tokens.specs.declared.token.Token as tokens
use Rattle.sql_text.specs.Words.{meaning_in}
use Rattle.sql_bind.specs.Statements.{TextCause}
use Rattle.sql_bind.specs.declared.refusal.BindRefusal.{BindRefusal}
use Rattle.sql_bind.specs.declared.refusal.BindRefusal.TheVariants as bind
use Rattle.sql_bind.specs.declared.statement.StatementRefusal.TheVariants as statement
use Rattle.inspect_places.specs.Names.{is_called}
use Rattle.inspect_places.specs.Refusals.{IsQueryPlace}
use Rattle.inspect_places.specs.declared.place.Place.{Place}

-- the name that a query is refused for
abbrev pub name_of : BindRefusal → Option (List ℕ)
name_of (bind.UnknownTable name) = Some name
name_of (bind.UnknownColumn name) = Some name
name_of (bind.WrongKind name) = Some name
name_of (bind.NotGrouped name) = Some name
name_of bind.Memory = None

-- the place is that of a token of the text, which is this name
pub record IsTokenOf (bytes : List ℕ) (all : List tokens.Token) (name : List ℕ) (p : Place) : Type 0 where
  pub number : ℕ
  pub token : tokens.Token
  pub among : slice_get all number ≡ Some token
  pub there : p.span ≡ token.span
  pub called : is_called name (meaning_in bytes token) ≡ true

-- THE PLACE OF A REFUSED NAME is a token that is this name, and never the end of the text
abbrev pub NamesStand : Type 0
NamesStand = (bytes : List ℕ) (columns : List Column) (why : BindRefusal) (name : List ℕ) (all : List tokens.Token)
    (p : Place)
    → name_of why ≡ Some name → TextCause bytes columns (Some (statement.Query why)) → HasTokens 0 bytes all
    → IsQueryPlace bytes columns all why p
    → IsTokenOf bytes all name p
