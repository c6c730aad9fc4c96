-- What may stand in an output for each of its parts.
use Rattle.std.specs.Prelude.{◌≡◌, ◌≢◌, ◌⊎◌, true, ℕ, List, [], ◌∷◌, ◌++◌, Option, Some, None, MatchOption}
use Rattle.std.specs.Prelude.{is_some, length, map}
use Rattle.story_text.specs.Reading.{lacks}
use Rattle.inspect_verdict.specs.Ends.{PartsFrom}
use Rattle.inspect_verdict.specs.declared.part.Part.{Part}
use Rattle.inspect_verdict.specs.declared.splitting.Split.{Split}

-- a line of these words behind a head
abbrev pub line_of : Option (List ℕ) → List ℕ → List ℕ
line_of None words = []
line_of (Some head) words = head ++ (words ++ 10 ∷ [])

-- what stands for a part: its own text, or a line of these words
abbrev pub text_of : Part → Option (List ℕ) → List ℕ
text_of p None = p.text
text_of p (Some words) = line_of p.head words

-- nothing begins with both
abbrev pub PartWays : List ℕ → List ℕ → Type 0
PartWays a b = (r s : List ℕ) → a ++ r ≢ b ++ s

-- a line of these words may stand for the part: it is one line, begins with the part's head, and can't be taken for its
-- text
pub record IsLine (p : Part) (words : List ℕ) : Type 0 where
  pub headed : is_some p.head ≡ true
  pub one : lacks 10 words ≡ true
  pub apart : PartWays p.text (line_of p.head words)

-- the part's own text may stand for it, and so may such a line
abbrev pub MayStand : Part → Option (List ℕ) → Type 0
MayStand p None = Unit {0}
MayStand p (Some words) = IsLine p words

-- what stands for parts, one behind another
abbrev pub texts_of : List Part → List (Option (List ℕ)) → List ℕ
texts_of [] lines = []
texts_of (p ∷ parts) [] = []
texts_of (p ∷ parts) (words ∷ lines) = text_of p words ++ texts_of parts lines

-- a line that begins with this head
abbrev pub IsHeadedLine : Option (List ℕ) → List ℕ → Type 0
IsHeadedLine None text = ⊥
IsHeadedLine (Some head) text = (words : List ℕ) × (lacks 10 words ≡ true) × (text ≡ head ++ (words ++ 10 ∷ []))

-- a text stands for a part: its own, or a line that begins with its head
abbrev pub StandsFor : Part → List ℕ → Type 0
StandsFor p text = (text ≡ p.text) ⊎ IsHeadedLine p.head text

-- WHAT STANDS BEHIND PARTS: the text has one text for each of them, in order, and then this
abbrev pub StandsBehind : List Part → List ℕ → List ℕ → Type 0
StandsBehind [] text rest = text ≡ rest
StandsBehind (p ∷ parts) text rest = (begin more : List ℕ) × StandsFor p begin × (text ≡ begin ++ more)
    × StandsBehind parts more rest

-- nothing that a text begins with stands for the part
abbrev pub HasNone : Part → List ℕ → Type 0
HasNone p text = (begin rest : List ℕ) → StandsFor p begin → text ≢ begin ++ rest

-- THE FIRST PART FOR WHICH NOTHING STANDS is that at this place, from 0: something stands for each part before it, and
-- from this end on, what stands behind them isn't the part's own text, which goes on with more
pub record LacksPart (parts : List Part) (text : List ℕ) (place : ℕ) (end more : List ℕ) : Type 0 where
  pub before : List Part
  pub part : Part
  pub after : List Part
  pub parts_are : parts ≡ before ++ part ∷ after
  pub at_place : place ≡ length before
  pub front : List ℕ
  pub rest : List ℕ
  pub text_is : text ≡ front ++ rest
  pub behind : StandsBehind before text rest
  pub none : HasNone part rest
  pub parted : PartsFrom rest part.text end more

-- for each part it is known whether a line stands for it, and this stands behind the last part
pub record IsSplit (words : List (Option (List ℕ))) (rest : List ℕ) (s : Split) : Type 0 where
  pub lines : s.lines.items ≡ map is_some words
  pub behind : MatchOption s.behind ⊥ (λ b. b.now ≡ rest)
