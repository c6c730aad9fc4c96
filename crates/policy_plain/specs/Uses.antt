-- The chunks that normal has used.
use Rattle.std.specs.Prelude.{◌&&◌, ℕ, Bool, true, not, nat_lt, List, [], ◌∷◌}
use Rattle.scan_story.specs.Counting.{has}

-- each is one of 1024 chunks, and none stands there twice
abbrev pub are_uses : List ℕ → Bool
are_uses [] = true
are_uses (c ∷ cs) = nat_lt c 1024 && (not (has cs c) && are_uses cs)
