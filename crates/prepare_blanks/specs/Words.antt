-- The words of a text, line by line.
use Rattle.std.specs.Prelude.{◌≡◌, ◌==◌, ◌+◌, ◌&&◌, ℕ, Bool, false, List, [], ◌∷◌, if◌then◌else◌}
use Rattle.std.specs.List.{list_any}
use Rattle.csv.specs.Reading.{strip_bom}
use Rattle.prepare_text.specs.Walk.{Lined, text_records}
use Rattle.prepare_text.specs.declared.place.Marks.{Marks}
use Rattle.prepare_blanks.specs.Blanks.{is_blank, is_line_end}
use Rattle.prepare_blanks.specs.Tabs.{tabbed}

-- a byte more at the begin of the first list
abbrev pub onto_first : ℕ → List (List ℕ) → List (List ℕ)
onto_first b [] = (b ∷ []) ∷ []
onto_first b (first ∷ rest) = (b ∷ first) ∷ rest

-- the lines of a text, each ended by a carriage return, a line feed or both, and what stands behind the last end; a
-- line feed behind a carriage return ends no further line
abbrev pub lines_from : Bool → List ℕ → List (List ℕ)
lines_from after_cr [] = [] ∷ []
lines_from after_cr (b ∷ bytes) = if (b == 10) && after_cr then lines_from false bytes
    else if is_line_end b then [] ∷ lines_from (b == 13) bytes else onto_first b (lines_from false bytes)

abbrev pub lines_of : List ℕ → List (List ℕ)
lines_of text = lines_from false text

-- what stands between blanks
abbrev pub pieces : List ℕ → List (List ℕ)
pieces [] = [] ∷ []
pieces (b ∷ bytes) = if is_blank b then [] ∷ pieces bytes else onto_first b (pieces bytes)

-- those that aren't empty
abbrev pub filled : List (List ℕ) → List (List ℕ)
filled [] = []
filled ([] ∷ rest) = filled rest
filled ((b ∷ bytes) ∷ rest) = (b ∷ bytes) ∷ filled rest

-- THE WORDS OF A LINE: what stands between runs of blanks
abbrev pub words : List ℕ → List (List ℕ)
words line = filled (pieces line)

-- a record with the number of its line; a line without words is none
abbrev pub worded : ℕ → List (List ℕ) → List Lined → List Lined
worded n [] rest = rest
worded n (word ∷ more) rest = record { line = n; fields = word ∷ more } ∷ rest

-- THE WORDS OF LINES that count from n
abbrev pub rows_from : ℕ → List (List ℕ) → List Lined
rows_from n [] = []
rows_from n (line ∷ lines) = worded n (words line) (rows_from (n + 1) lines)

abbrev pub by_tabs : ℕ → Marks
by_tabs quote = record { delimiter = 9; quote = quote }

-- the records that are read of a text parted by tabs are the words of its lines, where no quote stands in it
abbrev pub AreWords : Type 0
AreWords = (quote : ℕ) (text : List ℕ) → list_any (λ b. b == quote) text ≡ false
    → text_records (by_tabs quote) (tabbed quote text) ≡ rows_from 1 (lines_of (strip_bom text))
