-- Which bars are over a moment of a story.
use Rattle.std.specs.Prelude.{◌==◌, ◌&&◌, ℕ, Bool, nat_le, nat_lt, List, [], ◌∷◌, Option, None, Some, if◌then◌else◌}
use Rattle.inspect_picture.specs.declared.bar.Bar.{Bar}

-- the bar is in the frame's lane, and over the moment behind the first k entries
abbrev pub is_over : ℕ → ℕ → Bar → Bool
is_over f k b = b.frame == f && nat_le b.first k && nat_lt k b.last

-- the pieces whose bars are in the frame's lane over that moment
abbrev pub pieces_over : ℕ → ℕ → List Bar → List ℕ
pieces_over f k [] = []
pieces_over f k (b ∷ bs) = if is_over f k b then b.piece ∷ pieces_over f k bs else pieces_over f k bs

-- the one piece, or none
abbrev pub listed : Option ℕ → List ℕ
listed None = []
listed (Some p) = p ∷ []
