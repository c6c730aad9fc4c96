-- The cursor of attach, made of what the policy keeps.
use Rattle.std.specs.Prelude.{◌+◌, ◌∷◌, ℕ, List, Option, None, Some, map}

-- one more than the start, or 0 before the query is served
abbrev pub place_of : Option ℕ → ℕ
place_of None = 0
place_of (Some start) = start + 1

-- the chunk that was last delivered, and then a place for each query from 1 on
abbrev pub cursor_of : ℕ → List (Option ℕ) → List ℕ
cursor_of last starts = last ∷ map place_of starts
