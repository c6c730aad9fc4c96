-- The line and the column of the byte that these bytes stand before.
use Rattle.std.specs.Prelude.{ℕ, ◌+◌, ◌==◌, not, if◌then◌else◌, List, [], ◌∷◌, reverse}
use Rattle.std.specs.List.{prefix_len}

-- how many lines end: each with its LF
abbrev pub ended : List ℕ → ℕ
ended [] = 0
ended (b ∷ bs) = (if b == 10 then 1 else 0) + ended bs

-- one more than the lines that end before it
abbrev pub line_of : List ℕ → ℕ
line_of before = 1 + ended before

-- one more than the bytes behind the last LF before it
abbrev pub column_of : List ℕ → ℕ
column_of before = 1 + prefix_len (λ b. not (b == 10)) (reverse before)
