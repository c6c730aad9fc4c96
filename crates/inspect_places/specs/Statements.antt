-- The place of a statement's refusal, among its tokens, or where it has none.
use Rattle.std.specs.Prelude.{◌≡◌, ◌-◌, ◌==◌, ◌&&◌, ℕ, Bool, true, false, if◌then◌else◌, List, [], length, take}
use Rattle.std.specs.Prelude.{Option, Some, None, slice_get, slice_index}
use Rattle.table_core.specs.declared.schema.Column.{Column}
use Rattle.sql_tokens.specs.Tokens.{HasTokens}
use Rattle.sql_tokens.specs.declared.token.Token as tokens
use Rattle.sql_bind.specs.declared.statement.StatementRefusal.{StatementRefusal}
use Rattle.inspect_places.specs.Prefixes.{IsLongestPrefix}
use Rattle.inspect_places.specs.declared.place.Place.{Place}
use Rattle.inspect_places.specs.Refusals.{IsRefusalPlace}
use Rattle.inspect_places.specs.Spelled.{char_end}

abbrev pub is_quote : ℕ → Bool
is_quote b = if b == 39 then true else b == 34

-- a text or a name ends just before another quote of its kind: the two are one inside it, and it is open
abbrev pub is_reopened : List ℕ → ℕ → tokens.Token → Bool
is_reopened bytes prefix t = is_quote (slice_index bytes prefix) && (t.span.to == prefix)
    && (slice_index bytes t.span.from == slice_index bytes prefix)

abbrev pub opening_of : List ℕ → ℕ → Option tokens.Token → ℕ
opening_of bytes prefix None = prefix
opening_of bytes prefix (Some t) = if is_reopened bytes prefix t then t.span.from else prefix

-- where a text stops having tokens: the quote that opens what is open there, which may be that of the last token; or
-- else the byte behind the longest prefix that has tokens
abbrev pub opening : List ℕ → ℕ → List tokens.Token → ℕ
opening bytes prefix all = opening_of bytes prefix (slice_get all (length all - 1))

-- THE PLACE of a text that has no tokens: the character where they stop, whole
pub record IsNoToken (bytes : List ℕ) (p : Place) : Type 0 where
  pub prefix : ℕ
  pub before : List tokens.Token
  pub longest : IsLongestPrefix bytes prefix
  pub has : HasTokens 0 (take prefix bytes) before
  pub from : p.span.from ≡ opening bytes prefix before
  pub to : p.span.to ≡ char_end bytes p.span.from
  pub stands : p.stands.items ≡ []
  pub is_table : p.is_table ≡ false
  pub most : p.most ≡ None
  pub foreign : p.foreign ≡ None

-- THE PLACE of a statement's refusal: that among its tokens, or else the byte at which no token begins.
pub record IsStatementPlace (bytes : List ℕ) (columns : List Column) (e : StatementRefusal) (p : Place) : Type 0 where
  pub lexed : (all : List tokens.Token) → HasTokens 0 bytes all → IsRefusalPlace bytes columns all e p
  pub none : ((all : List tokens.Token) → HasTokens 0 bytes all → ⊥) → IsNoToken bytes p
