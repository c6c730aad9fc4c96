-- What holds of the bell's words between any two steps of any workers: who lies is seen, or is to be rung for, or was
-- rung for since.
use Rattle.std.specs.Prelude.{◌≡◌, ◌≢◌, ◌+◌, ◌<◌, ◌≤◌, ◌⊎◌, ℕ, List, length, slice_index}
use mathlib.Core.Option.{some}
use lib.ListN.{get_elem?}
use Rattle.atomic_table.specs.Table as table
use Rattle.baton.specs.declared.rest.Rest.{Rest}
use Rattle.baton.specs.declared.rest.Rest.TheVariants.{Idle, Heard, Lies, Cleared, Rings}

-- how often the worker was rung for
abbrev pub rings_of : List ℕ → ℕ → ℕ
rings_of words w = slice_index words w

-- the query that the worker sleeps for, or 0
abbrev pub place_of : List ℕ → ℕ → ℕ
place_of words w = slice_index words (32 + w)

-- the most rings that are counted, 2 ^ 64 - 1
abbrev pub most_rings : ℕ
most_rings = 18446744073709551615

-- it is to ring for the worker, and read no fewer rings of it
abbrev pub IsToRing : ℕ → ℕ → Rest → Type 0
IsToRing w n Idle = ⊥
IsToRing w n (Heard u m) = ⊥
IsToRing w n (Lies u m) = ⊥
IsToRing w n (Cleared u m) = (u ≡ w) × (n ≤ m)
IsToRing w n (Rings u m) = (u ≡ w) × (n ≤ m)

-- somebody is to ring for the worker that was rung for so often
pub record IsRungFor (views : List Rest) (w : ℕ) (n : ℕ) : Type 0 where
  pub at : ℕ
  pub who : Rest
  pub there : get_elem? views at ≡ some who
  pub rings : IsToRing w n who

-- of what one has done for a worker: it read no more rings than there are, and where it noted that the worker sleeps
-- and nobody has rung since, the worker's place says so, or somebody is to ring for it
abbrev pub IsSeen : List ℕ → List Rest → Rest → Type 0
IsSeen words views Idle = Unit {0}
IsSeen words views (Heard w n) = (w < 32) × (n ≤ rings_of words w)
IsSeen words views (Lies w n) = (w < 32) × (n ≤ rings_of words w)
    × (n ≡ rings_of words w → n < most_rings → (place_of words w ≢ 0) ⊎ IsRungFor views w n)
IsSeen words views (Cleared w n) = (w < 32) × (n ≤ rings_of words w)
IsSeen words views (Rings w n) = (w < 32) × (n ≤ rings_of words w)

pub record EachIsSeen (s : table.State (Unit {0}) Rest) : Type 0 where
  pub wide : length s.words ≡ 64
  pub seen : (j : ℕ) (v : Rest) → get_elem? s.views j ≡ some v → IsSeen s.words s.views v
