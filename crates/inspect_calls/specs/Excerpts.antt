-- How lines of a text are shown.
use Rattle.std.specs.Prelude.{◌≡◌, ◌≢◌, ◌≤◌, ◌-◌, ◌++◌, ◌∷◌, [], ℕ, Bool, true, false, List, IsUtf8}
use Rattle.std.specs.Prelude.{codes, decimal, length, nat_lt, if◌then◌else◌}
use Rattle.inspect_verdict.specs.declared.parting.Parting.{Parting}

-- a text from a character on that begins at this byte, from 0, or before it
pub record IsBehind (text : List ℕ) (at : ℕ) (rest : List ℕ) : Type 0 where
  pub before : List ℕ
  pub joined : text ≡ before ++ rest
  pub near : length before ≤ at
  -- whole characters where the text is UTF-8
  pub chars : IsUtf8 text → IsUtf8 rest

-- the beginning of a text: the whole of it, where it has at most 200 bytes, and else at most so many
pub record IsFront (text front : List ℕ) : Type 0 where
  pub rest : List ℕ
  pub joined : text ≡ front ++ rest
  pub few : length front ≤ 200
  pub whole : length text ≤ 200 → front ≡ text
  -- whole characters where the text is UTF-8
  pub chars : IsUtf8 text → IsUtf8 front

-- two points, where something is left out
abbrev pub points_if : Bool → List ℕ
points_if true = codes ".."
points_if false = []

-- the end of a line: nothing, or words where the text ends in it
abbrev pub end_words : Bool → Bool → List ℕ
end_words has_end true = codes "the end"
end_words true false = []
end_words false false = codes " and the end"

-- the words of a line that has an end, or none
pub record HasWords (line words : List ℕ) (has_end : Bool) : Type 0 where
  pub line_is : line ≡ words ++ (if has_end then 10 ∷ [] else [])
  pub endless : has_end ≡ false → (begin : List ℕ) → line ≢ begin ++ 10 ∷ []

-- HOW A LINE IS SHOWN, from a byte on: at most 200 bytes, with points where something is left out
pub record IsShown (line : List ℕ) (at : ℕ) (shown : List ℕ) : Type 0 where
  pub words : List ℕ
  pub has_end : Bool
  pub has_words : HasWords line words has_end
  pub rest : List ℕ
  pub behind : IsBehind words at rest
  pub front : List ℕ
  pub cut : IsFront rest front
  pub text : shown ≡ points_if (nat_lt (length rest) (length words))
      ++ (front ++ (points_if (nat_lt (length front) (length rest)) ++ end_words has_end (nat_lt (length line) 1)))

-- words about a text, and what stands there
pub record TellsFound (words line text : List ℕ) : Type 0 where
  pub found : List ℕ
  pub shown : IsShown line 0 found
  pub text_is : text ≡ words ++ (codes ", found " ++ (found ++ codes "\n"))

-- from where on two lines are shown that part at a byte, from 1: from the beginning, unless that lies too far behind
abbrev pub shown_from : ℕ → ℕ
shown_from byte = if nat_lt 200 byte then byte - 101 else 0

-- words about a text, from which byte on it parts from what should stand there, and both lines
pub record TellsParting (words : List ℕ) (p : Parting) (text : List ℕ) : Type 0 where
  pub expected : List ℕ
  pub found : List ℕ
  pub expected_shown : IsShown p.expected (shown_from p.byte) expected
  pub found_shown : IsShown p.found (shown_from p.byte) found
  pub text_is : text ≡ words ++ (codes ", from byte " ++ (decimal p.byte ++ (codes " on: expected " ++ (expected
      ++ (codes ", found " ++ (found ++ codes "\n"))))))
