-- Lines of a text, and the line in which it parts from another one.
use Rattle.std.specs.Prelude.{◌≡◌, ◌==◌, ◌+◌, ◌-◌, ℕ, zero, suc, List, [], ◌∷◌, if◌then◌else◌}
use Rattle.inspect_verdict.specs.Ends.{BeginsAtLine, PartsFrom}
use Rattle.inspect_verdict.specs.declared.parting.Parting.{Parting}

-- the first line of a text, with its line end, where it has one
abbrev pub first_line : List ℕ → List ℕ
first_line [] = []
first_line (b ∷ bs) = b ∷ (if b == 10 then [] else first_line bs)

-- what stands behind it
abbrev pub behind_first : List ℕ → List ℕ
behind_first [] = []
behind_first (b ∷ bs) = if b == 10 then bs else behind_first bs

abbrev pub behind_lines : ℕ → List ℕ → List ℕ
behind_lines zero text = text
behind_lines (suc n) text = behind_lines n (behind_first text)

-- THE LINE of this number, from 1, with its line end, where it has one
abbrev pub line_in : ℕ → List ℕ → List ℕ
line_in line text = first_line (behind_lines (line - 1) text)

-- how long the longest beginning is that two texts have in common
abbrev pub common : List ℕ → List ℕ → ℕ
common [] ys = 0
common (x ∷ xs) [] = 0
common (x ∷ xs) (y ∷ ys) = if x == y then common xs ys + 1 else 0

-- WHERE A TEXT PARTS from another one, that should stand there: in this line, of which this is found, and that is
-- expected, from this byte of the line on
pub record IsParting (text other : List ℕ) (p : Parting) : Type 0 where
  pub end : List ℕ
  pub more : List ℕ
  pub parts : PartsFrom text other end more
  pub at_line : BeginsAtLine text end p.line
  pub found : p.found ≡ line_in p.line text
  pub expected : p.expected ≡ line_in p.line other
  pub byte : p.byte ≡ common p.found p.expected + 1
