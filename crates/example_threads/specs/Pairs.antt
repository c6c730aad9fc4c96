-- Pieces of two words, of which the example of a frame speaks.
use Rattle.std.specs.Prelude.{◌≡◌, ◌≤◌, ℕ, [], ◌∷◌, slice_get, Some, None}
use Rattle.frame_pool.specs.Frames.{Told}
use Rattle.frame_pool.specs.Berths.{PoolView, BerthView, IsAt, IsBlank}

-- the berth is the pool's, without pins and fill, and frame 0 has room for two words
abbrev pub IsReady : PoolView → BerthView → Type 0
IsReady p b = IsAt p b 0 × IsBlank b × (2 ≤ p.shape.words)

-- where the content is told and its piece p has two words, it is these two
abbrev pub IsPair : Told → ℕ → ℕ × ℕ → Type 0
IsPair None p words = Unit {0}
IsPair (Some pieces) p words = (a b : ℕ) → slice_get pieces p ≡ Some (a ∷ b ∷ []) → words ≡ (a, b)
