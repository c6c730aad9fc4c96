-- What a reader of records has left.
use Rattle.std.specs.Prelude.{◌≡◌, ◌≤◌, ◌⊎◌, ⊤, ℕ, Bool, false, List, [], ◌∷◌, ◌++◌, length, drop, Option, Some, None}
use Rattle.std.specs.Prelude.{option_map}
use Rattle.std.specs.Io.KnownBytes.{IsAtEnd, prepend_known}
use Rattle.csv.specs.Reading.{is_bom}
use Rattle.prepare_text.specs.Walk.{Lined, format, lined, walk_of}
use Rattle.prepare_text.specs.declared.source.Source.{Source}
use Rattle.prepare_text.specs.declared.walker.Walker.{Walker}

-- the text that is still to be walked, where it is known
abbrev pub held : {R : Type 0} → (R → Option (List ℕ)) → Source R → Option (List ℕ)
held rem s = prepend_known (drop s.at s.text.items) (rem s.input)

-- the records of that text, of which the first has these fields already
abbrev pub going : {R : Type 0} → (R → Option (List ℕ)) → Source R → List (List ℕ) → Option (List Lined)
going rem s fields = option_map (lined (format s.walker.marks) (walk_of s.walker fields)) (held rem s)

-- THE RECORDS THAT ARE LEFT
abbrev pub left : {R : Type 0} → (R → Option (List ℕ)) → Source R → Option (List Lined)
left rem s = going rem s []

-- the line on which the record that was read last begins
abbrev pub begun : {R : Type 0} → Source R → ℕ
begun s = s.walker.lines.begun

abbrev pub record_of : ℕ → List (List ℕ) → Lined
record_of line fields = record { line = line; fields = fields }

-- known records lose their first, which is this one
abbrev pub Takes : Option (List Lined) → Lined → Option (List Lined) → Type 0
Takes None first new = ⊤
Takes (Some rows) first None = ⊥
Takes (Some rows) first (Some rest) = rows ≡ first ∷ rest

-- known records stay as they are
abbrev pub Stays : Option (List Lined) → Option (List Lined) → Type 0
Stays None new = ⊤
Stays (Some rows) None = ⊥
Stays (Some rows) (Some rest) = rest ≡ rows

-- no known record is left
abbrev pub IsOver : Option (List Lined) → Type 0
IsOver None = ⊤
IsOver (Some rows) = rows ≡ []

-- whatever stands behind a text, a record ended in it, and this is left of the text
abbrev pub Ends : Walker → List (List ℕ) → List ℕ → Walker → List (List ℕ) → List ℕ → Type 0
Ends old fields text new made rest = (more : List ℕ) → lined (format old.marks) (walk_of old fields) (text ++ more)
    ≡ record_of new.lines.begun made ∷ lined (format old.marks) (walk_of new []) (rest ++ more)

-- whatever stands behind a text, no record ended in it, and this is left of it
abbrev pub Goes : Walker → List (List ℕ) → List ℕ → Walker → List (List ℕ) → List ℕ → Type 0
Goes old fields text new made rest = (more : List ℕ) → lined (format old.marks) (walk_of old fields) (text ++ more)
    ≡ lined (format old.marks) (walk_of new made) (rest ++ more)

-- the text that is held is long enough to show a byte order mark, or is all there is
abbrev pub HasFront : {R : Type 0} → (R → Option (List ℕ)) → Source R → Type 0
HasFront rem s = (3 ≤ length s.text.items) ⊎ IsAtEnd (rem s.input)

-- the text begins with a byte order mark
abbrev pub has_mark : List ℕ → Bool
has_mark (a ∷ b ∷ c ∷ rest) = is_bom a b c
has_mark _ = false
