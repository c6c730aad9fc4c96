-- The lines of a note.
use Rattle.std.specs.Prelude.{ℕ, List, [], ◌∷◌, ◌++◌, codes, decimal, slice_index_or}
use Rattle.std.specs.List.{flat_map}
use Rattle.sql_writing.specs.Writing.{name_text}
use Rattle.table_core.specs.declared.schema.Column.{Column}
use Rattle.table_core.specs.declared.schema.Kind.TheVariants.{Int}
use Rattle.inspect_notes.specs.declared.note.Note.{Note}
use Rattle.inspect_notes.specs.declared.obstacle.Choice.{Choice}
use Rattle.inspect_notes.specs.declared.obstacle.Choice.TheVariants.{Either, NotBoth}
use Rattle.inspect_notes.specs.declared.obstacle.Obstacle.{Obstacle}
use Rattle.inspect_notes.specs.declared.obstacle.Obstacle.TheVariants.{NoWhere, Numbers, Texts, Nulls, Side, Sides}

-- the name of a column
abbrev pub name_at : List Column → ℕ → List ℕ
name_at columns x = (slice_index_or columns x (record { name = []; kind = Int })).name

-- the name of a column between two texts
abbrev pub named_text : List Column → List ℕ → ℕ → List ℕ → List ℕ
named_text columns first x last = first ++ (name_text (name_at columns x) ++ last)

-- a choice as it stands in the query, before the name of the column with which its side begins
abbrev pub side_words : Choice → List ℕ
side_words Either = codes "one side of an OR, which begins with "
side_words NotBoth = codes "one side of an AND below NOT, which begins with "

-- and what of this side may be had
abbrev pub side_end : Choice → List ℕ
side_end Either = codes ", is allowed in each chunk"
side_end NotBoth = codes ", may be false in each chunk"

abbrev pub sides_words : Choice → List ℕ
sides_words Either = codes "the sides of an OR together are allowed in each chunk"
sides_words NotBoth = codes "the one side or the other of an AND below NOT may be false in each chunk"

-- what is said of a column that a part compares or tests
abbrev pub zone_words : Obstacle → List ℕ
zone_words (Numbers x) = codes " is compared with a number that its zone in each chunk allows"
zone_words (Texts x) = codes " is compared with a text that its zone in each chunk allows"
zone_words (Nulls x) = codes " is tested for NULL, which its zone in each chunk allows"
zone_words _ = []

-- what stands in the way, in words
abbrev pub obstacle_text : List Column → Obstacle → List ℕ
obstacle_text columns NoWhere = codes "there is no WHERE"
obstacle_text columns (Numbers x) = named_text columns [] x (zone_words (Numbers x))
obstacle_text columns (Texts x) = named_text columns [] x (zone_words (Texts x))
obstacle_text columns (Nulls x) = named_text columns [] x (zone_words (Nulls x))
obstacle_text columns (Side x c) = named_text columns (side_words c) x (side_end c)
obstacle_text columns (Sides c) = sides_words c

-- the names of these columns, the first behind a word and each other one behind a comma
abbrev pub names_text : List Column → List ℕ → List ℕ → List ℕ
names_text columns word [] = []
names_text columns word (x ∷ xs) = word ++ (name_text (name_at columns x) ++ names_text columns (codes ", ") xs)

abbrev pub obstacle_line : List Column → Obstacle → List ℕ
obstacle_line columns o = codes "  nothing is left out: " ++ (obstacle_text columns o ++ 10 ∷ [])

-- the number of a statement, and its query
abbrev pub statement_text : ℕ → List ℕ → List ℕ
statement_text number query = decimal number ++ (codes ": " ++ (query ++ 10 ∷ []))

-- the end of the line before, and how many chunks are needed of how many
abbrev pub chunks_text : ℕ → ℕ → List ℕ
chunks_text needed chunks = codes "\n  chunks " ++ (decimal needed ++ (codes " of " ++ (decimal chunks ++ 10 ∷ [])))

-- THE LINES of the statement of this number
abbrev pub note_text : ℕ → List Column → Note → List ℕ
note_text number columns n =
    statement_text number n.text
    ++ (names_text columns (codes "  reads ") n.columns.items
    ++ (chunks_text n.needed n.chunks ++ flat_map (obstacle_line columns) n.obstacles.items))
