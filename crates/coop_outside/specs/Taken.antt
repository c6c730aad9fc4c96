-- What a sink tells of the bytes that it took.
use Rattle.std.specs.Prelude.{◌≡◌, ◌≤◌, ◌<◌, ℕ, List, ◌++◌, length, take, Option, option_map, Result, Ok, Err}
use Rattle.coop_outside.specs.declared.failed.Failed.{Failed}

-- the bytes taken, where a sink tells them, and then these
abbrev pub grown : Option (List ℕ) → List ℕ → Option (List ℕ)
grown taken bytes = option_map (λ t. t ++ bytes) taken

-- what a write of a piece does to the bytes taken
abbrev pub Takes : Option (List ℕ) → List ℕ → Result ℕ Failed → Option (List ℕ) → Type 0
Takes old piece (Ok n) new = (n ≤ length piece) × (0 < length piece → 0 < n) × (new ≡ grown old (take n piece))
Takes old piece (Err e) new = new ≡ old
