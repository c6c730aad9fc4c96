-- The least candidate, or none where there is no candidate.
use Rattle.std.specs.Prelude.{◌≡◌, ℕ, Bool, false, Option, None, Some}
use Rattle.scan_story.specs.Policies.{IsLeast, IsGreatest}

-- the candidate of least f
abbrev pub PicksLeast : (ℕ → Bool) → (ℕ → ℕ) → Option ℕ → Type 0
PicksLeast is_candidate f None = (y : ℕ) → is_candidate y ≡ false
PicksLeast is_candidate f (Some x) = IsLeast is_candidate f x

-- the candidate of greatest f
abbrev pub PicksGreatest : (ℕ → Bool) → (ℕ → ℕ) → Option ℕ → Type 0
PicksGreatest is_candidate f None = (y : ℕ) → is_candidate y ≡ false
PicksGreatest is_candidate f (Some x) = IsGreatest is_candidate f x
