-- Where a statement is refused.
use Rattle.std.specs.Prelude.{◌≡◌, ◌+◌, ◌-◌, ◌==◌, ◌++◌, ◌&&◌, ℕ, Bool, List, [], ◌∷◌, length, min, take, drop, codes}
use Rattle.std.specs.Prelude.{decimal, Option, Some, None, if◌then◌else◌}
use Rattle.inspect_places.specs.Foreign.{instead_of, name_of}
use Rattle.inspect_places.specs.Lines.{column_of, line_of}
use Rattle.inspect_places.specs.Spelled.{bytes_at}
use Rattle.inspect_places.specs.Stands.{stands_text}
use Rattle.inspect_places.specs.Statements.{IsStatementPlace}
use Rattle.inspect_places.specs.declared.foreign.Foreign.{Foreign}
use Rattle.inspect_places.specs.declared.kind.Kind.{Kind}
use Rattle.inspect_places.specs.declared.place.Place.{Place}
use Rattle.run_inputs.specs.Statements.{part}
use Rattle.sql_bind.specs.declared.statement.StatementRefusal.{StatementRefusal}
use Rattle.sql_tokens.specs.declared.span.Span.{Span}
use Rattle.table_core.specs.declared.schema.Column.{Column}

-- how many bytes of a byte order mark the text begins with
abbrev pub mark_len : List ℕ → ℕ
mark_len (a ∷ (b ∷ (c ∷ bs))) = if (a == 239) && (b == 187) && (c == 191) then 3 else 0
mark_len bs = 0

-- the bytes before a place, without the mark
abbrev pub before : List ℕ → ℕ → List ℕ
before batch at = take (at - mark_len batch) (drop (mark_len batch) batch)

-- the line with the place of a byte of the batch, and a token; a byte order mark shifts no column
abbrev pub spot_text : List ℕ → ℕ → List ℕ → List ℕ
spot_text batch at token =
    (((codes "  at " ++ (decimal (line_of (before batch at)) ++ codes ":"))
    ++ (decimal (column_of (before batch at)) ++ codes " ")) ++ token) ++ codes "\n"

-- the line that says what is known of the token from other SQL, if something is
abbrev pub foreign_line : Option Foreign → List ℕ
foreign_line None = []
foreign_line (Some f) = (((codes "  " ++ name_of f) ++ codes " is not in this language: ") ++ instead_of f)
    ++ codes " (docs/SQL.md)\n"

-- the line that says what could stand there; none where the refusal isn't about the grammar
abbrev pub list_line : Bool → Option ℕ → List Kind → List ℕ
list_line is_table most [] = []
list_line is_table most (k ∷ ks) = (codes "  could stand there: " ++ stands_text is_table most (k ∷ ks)) ++ codes "\n"

abbrev pub stands_line : Place → List ℕ
stands_line p = list_line p.is_table p.most p.stands.items

-- the lines behind a place
abbrev pub hint_lines : Place → List ℕ
hint_lines place = stands_line place ++ foreign_line place.foreign

-- the lines of a place: where it is in the batch, the token there, what could stand there, and what is known
abbrev pub spot_lines : List ℕ → Span → Place → List ℕ
spot_lines batch span place =
    spot_text batch (min (span.from + place.span.from) (length batch)) (bytes_at (part batch span) place.span)
    ++ hint_lines place

-- the place of the refusal is told
pub record IsPlaceTold (batch : List ℕ) (span : Span) (columns : List Column) (why : StatementRefusal)
    (told : List ℕ) : Type 0 where
  pub place : Place
  pub is : IsStatementPlace (part batch span) columns why place
  pub lines : told ≡ spot_lines batch span place
