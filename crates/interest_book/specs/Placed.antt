-- Pieces of a chunk, of what the book keeps.
use Rattle.std.specs.Prelude.{◌+◌, ◌*◌, ◌++◌, ◌∷◌, [], not, ℕ, zero, suc, List, Option, filter, is_some, if◌then◌else◌}
use Rattle.scan_story.specs.Counting.{has}
use Rattle.chunk_interest.specs.Frames.{place_at}

-- the pieces of chunk c, of n pieces, at those groups below m that are read
abbrev pub read_below : List ℕ → ℕ → ℕ → ℕ → List ℕ
read_below reads c n zero = []
read_below reads c n (suc g) = if has reads g then read_below reads c n g ++ (c * n + g) ∷ []
    else read_below reads c n g

-- those of the pieces that stand in no frame
abbrev pub unplaced : List (Option ℕ) → List ℕ → List ℕ
unplaced places pieces = filter (λ p. not (is_some (place_at places p))) pieces
