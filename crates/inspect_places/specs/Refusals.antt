-- The place of each refusal of a statement, among its tokens.
use Rattle.std.specs.Prelude.{◌≡◌, ℕ, true, false, List, [], length, map, None}
use Rattle.table_core.specs.declared.schema.Column.{Column}
use Rattle.sql_tokens.specs.declared.refusal.TextRefusal.{TextRefusal}
use Rattle.sql_tokens.specs.declared.refusal.TextRefusal.TheVariants as text
use Rattle.sql_tokens.specs.declared.token.Token as tokens
use Rattle.sql_text.specs.Words.{meaning_in}
use Rattle.sql_bind.specs.declared.refusal.BindRefusal.{BindRefusal}
use Rattle.sql_bind.specs.declared.refusal.BindRefusal.TheVariants as bind
use Rattle.sql_bind.specs.declared.statement.StatementRefusal.{StatementRefusal}
use Rattle.sql_bind.specs.declared.statement.StatementRefusal.TheVariants as statement
use Rattle.inspect_places.specs.declared.place.Place.{Place}
use Rattle.inspect_places.specs.declared.role.About.{About}
use Rattle.inspect_places.specs.declared.role.About.TheVariants as about
use Rattle.inspect_places.specs.Places.{IsGrammarPlace, span_at}
use Rattle.inspect_places.specs.Nesting.{IsNestingPlace}
use Rattle.inspect_places.specs.Names.{first_index, is_about, names_at}

-- the token of this number, or the end of the text; nothing is said of what could stand there
abbrev pub IsAt : List ℕ → List tokens.Token → ℕ → Place → Type 0
IsAt bytes all number p = (p.span ≡ span_at (length bytes) all number) × (p.stands.items ≡ [])
    × (p.is_table ≡ false) × (p.most ≡ None) × (p.foreign ≡ None)

-- the first token that is this name in a part that is refused
abbrev pub IsNamePlace : List ℕ → List Column → List tokens.Token → About → List ℕ → Place → Type 0
IsNamePlace bytes columns all a name p = IsAt bytes all
    (first_index (is_about columns a name) (names_at (map (meaning_in bytes) all))) p

abbrev pub IsTextPlace : List ℕ → List tokens.Token → TextRefusal → Place → Type 0
IsTextPlace bytes all text.Syntax p = IsGrammarPlace false bytes all p
IsTextPlace bytes all text.TooManyItems p = IsGrammarPlace true bytes all p
IsTextPlace bytes all text.TooNested p = (number : ℕ) × IsNestingPlace (map (meaning_in bytes) all) number
    × IsAt bytes all number p
IsTextPlace bytes all text.Memory p = ⊥

abbrev pub IsQueryPlace : List ℕ → List Column → List tokens.Token → BindRefusal → Place → Type 0
IsQueryPlace bytes columns all (bind.UnknownTable name) p = IsNamePlace bytes columns all about.Table name p
IsQueryPlace bytes columns all (bind.UnknownColumn name) p = IsNamePlace bytes columns all about.Column name p
IsQueryPlace bytes columns all (bind.WrongKind name) p = IsNamePlace bytes columns all about.Use name p
IsQueryPlace bytes columns all (bind.NotGrouped name) p = IsNamePlace bytes columns all about.Key name p
IsQueryPlace bytes columns all bind.Memory p = ⊥

abbrev pub IsRefusalPlace : List ℕ → List Column → List tokens.Token → StatementRefusal → Place → Type 0
IsRefusalPlace bytes columns all (statement.Text e) p = IsTextPlace bytes all e p
IsRefusalPlace bytes columns all (statement.Query e) p = IsQueryPlace bytes columns all e p
