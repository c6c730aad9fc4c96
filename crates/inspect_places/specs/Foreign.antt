-- What is known from other SQL and is not in this language, and what to write instead.
use Rattle.std.specs.Prelude.{ℕ, ◌==◌, Bool, true, false, if◌then◌else◌, List, [], ◌∷◌, slice_get, codes}
use Rattle.std.specs.Prelude.{Option, Some, None}
use Rattle.std.specs.Str.{str_eq_ignore_ascii_case}
use Rattle.sql_tokens.specs.declared.token.Token as tokens
use Rattle.sql_tokens.specs.declared.token.TokenKind.{TokenKind}
use Rattle.sql_tokens.specs.declared.token.TokenKind.TheVariants as token
use Rattle.inspect_places.specs.declared.foreign.Foreign.{Foreign}
use Rattle.inspect_places.specs.declared.foreign.Foreign.TheVariants as foreign
use Rattle.inspect_places.specs.declared.kind.Kind.{Kind}
use Rattle.inspect_places.specs.declared.kind.Kind.TheVariants as kind
use Rattle.inspect_places.specs.Near.{before_at}
use Rattle.inspect_places.specs.Spelled.{bytes_at}

-- THE LIST: each word or sign
abbrev pub name_of : Foreign → List ℕ
name_of foreign.Distinct = codes "DISTINCT"
name_of foreign.Avg = codes "AVG"
name_of foreign.As = codes "AS"
name_of foreign.In = codes "IN"
name_of foreign.Between = codes "BETWEEN"
name_of foreign.Like = codes "LIKE"
name_of foreign.Having = codes "HAVING"
name_of foreign.Join = codes "JOIN"
name_of foreign.Star = codes "* for all columns"
name_of foreign.Quoted = codes "a text in double quotes"

-- and what to write instead
abbrev pub instead_of : Foreign → List ℕ
instead_of foreign.Distinct = codes "GROUP BY the columns"
instead_of foreign.Avg = codes "SUM and COUNT"
instead_of foreign.As = codes "answers have no names, and the table is t"
instead_of foreign.In = codes "a comparison with each value, and OR between them"
instead_of foreign.Between = codes ">= the one and <= the other, and AND between them"
instead_of foreign.Like = codes "texts compare by bytes, as in >= 'n' AND < 'o'"
instead_of foreign.Having = codes "leave it out, and choose among the lines of the answer"
instead_of foreign.Join = codes "a batch is over one table, which is made before"
instead_of foreign.Star = codes "name the columns; COUNT(*) counts rows"
instead_of foreign.Quoted = codes "single quotes; in double quotes stands a name"

-- those that are words
abbrev pub words : List Foreign
words = foreign.Distinct ∷ foreign.Avg ∷ foreign.As ∷ foreign.In ∷ foreign.Between ∷ foreign.Like ∷ foreign.Having
    ∷ foreign.Join ∷ []

-- the one that a word is, ASCII case aside
abbrev pub find_in : List Foreign → List ℕ → Option Foreign
find_in [] word = None
find_in (f ∷ fs) word = if str_eq_ignore_ascii_case (name_of f) word then Some f else find_in fs word

abbrev pub star_of : List ℕ → Option Foreign
star_of (a ∷ []) = if a == 42 then Some foreign.Star else None
star_of _ = None

-- a word that isn't quoted
abbrev pub word_as : TokenKind → List ℕ → Option Foreign
word_as token.Name spelling = find_in words spelling
word_as _ spelling = None

-- a word, a star, or a name in double quotes where a text could stand
abbrev pub foreign_as : Bool → TokenKind → List ℕ → Option Foreign
foreign_as takes_text token.QuotedName spelling = if takes_text then Some foreign.Quoted else None
foreign_as takes_text token.Symbol spelling = star_of spelling
foreign_as takes_text kind spelling = word_as kind spelling

abbrev pub here : List ℕ → Bool → Option tokens.Token → Option Foreign
here bytes takes_text None = None
here bytes takes_text (Some t) = foreign_as takes_text t.kind (bytes_at bytes t.span)

abbrev pub word_at : List ℕ → Option tokens.Token → Option Foreign
word_at bytes None = None
word_at bytes (Some t) = word_as t.kind (bytes_at bytes t.span)

abbrev pub or_else : Option Foreign → Option Foreign → Option Foreign
or_else (Some f) o = Some f
or_else None o = o

-- WHAT IS KNOWN of a refused token: it is on the list, or the word before it is
abbrev pub foreign_at : List ℕ → Bool → List tokens.Token → ℕ → Option Foreign
foreign_at bytes takes_text all number =
    or_else (here bytes takes_text (slice_get all number)) (word_at bytes (before_at all number))

abbrev pub is_text : Kind → Bool
is_text kind.Text = true
is_text _ = false

-- whether a text is among what could stand there
abbrev pub takes_text : List Kind → Bool
takes_text [] = false
takes_text (k ∷ ks) = if is_text k then true else takes_text ks
