-- A text with its words parted by tabs.
use Rattle.std.specs.Prelude.{◌==◌, ℕ, List, [], ◌∷◌, ◌++◌, if◌then◌else◌}
use Rattle.csv.specs.Reading.{strip_bom}
use Rattle.prepare_blanks.specs.Blanks.{is_blank, is_line_end}
use Rattle.prepare_blanks.specs.declared.place.Place.{Place}
use Rattle.prepare_blanks.specs.declared.place.Place.TheVariants as place
use Rattle.prepare_blanks.specs.declared.tabs.TheConstants.{MARK}

-- behind a line end
abbrev pub line_end : ℕ → Place
line_end b = if b == 13 then place.AfterCr else place.Before

-- behind a byte of a word outside of quotes
abbrev pub inside : ℕ → Place
inside b = if is_blank b then place.Gap else if is_line_end b then line_end b else place.Inside

-- behind a byte between two words that is no blank: a quote begins a word in quotes
abbrev pub started : ℕ → ℕ → Place
started quote b = if is_line_end b then line_end b else if b == quote then place.Quoted else place.Inside

-- behind a byte: in quotes each byte but a quote belongs to the word, and two quotes stand for one
abbrev pub next : ℕ → Place → ℕ → Place
next quote place.Quoted b = if b == quote then place.AfterQuote else place.Quoted
next quote place.AfterQuote b = if b == quote then place.Quoted else inside b
next quote place.Inside b = inside b
next quote place.Gap b = if is_blank b then place.Gap else started quote b
next quote _ b = if is_blank b then place.Before else started quote b

-- a blank is left out, a line end becomes a line feed, and all else stays
abbrev pub kept : ℕ → List ℕ
kept b = if is_blank b then [] else if is_line_end b then 10 ∷ [] else b ∷ []

-- a tab stands before a word behind another one
abbrev pub tab : ℕ → List ℕ
tab b = if is_blank b then [] else if is_line_end b then [] else 9 ∷ []

-- what is made of a byte: in quotes it stays, and a line feed behind a carriage return ends no further line
abbrev pub shown : Place → ℕ → List ℕ
shown place.Quoted b = b ∷ []
shown place.AfterCr b = if b == 10 then [] else kept b
shown place.Gap b = tab b ++ kept b
shown _ b = kept b

abbrev pub tabbed_from : ℕ → Place → List ℕ → List ℕ
tabbed_from quote p [] = []
tabbed_from quote p (b ∷ bytes) = shown p b ++ tabbed_from quote (next quote p b) bytes

-- THE TEXT WITH ITS WORDS PARTED BY TABS, behind a byte order mark
abbrev pub tabbed : ℕ → List ℕ → List ℕ
tabbed quote text = MARK ++ tabbed_from quote place.Before (strip_bom text)
