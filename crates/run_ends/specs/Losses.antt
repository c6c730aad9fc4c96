-- Why statements are lost, by the story of their scans.
use Rattle.std.specs.Prelude.{◌≡◌, ◌≢◌, ◌⊎◌, ◌+◌, ℕ, List, [], ◌∷◌, Option, Some, None}
use Rattle.scan_story.specs.Views.{History}
use Rattle.scan_story.specs.declared.cause.Cause.{Cause}
use Rattle.scan_story.specs.declared.cause.Cause.TheVariants as cause
use Rattle.batch_ends.specs.Lost.{IsLostBy, cause_of_query}
use Rattle.run_stops.specs.declared.outcome.Outcome.{Outcome}
use Rattle.run_stops.specs.declared.outcome.Outcome.TheVariants as outcome

-- HOW A STATEMENT IS LOST: a query as the story says of its scans, or when out of memory; a statement that is refused
-- for its text has no scan that the story stopped, and isn't lost
abbrev pub IsLossOf : History → ℕ → ℕ → Outcome → Option Cause → Type 0
IsLossOf h parts n (outcome.Planned p) lost = IsLostBy h parts n lost
IsLossOf h parts n (outcome.Refused why) lost = (lost ≡ None) × (cause_of_query h parts n ≡ None)

-- so is each of the statements that come to these outcomes; the first one has this number
abbrev pub AreLostBy : History → ℕ → ℕ → List Outcome → List (Option Cause) → Type 0
AreLostBy h parts n [] [] = Unit {0}
AreLostBy h parts n (o ∷ outcomes) (lost ∷ losses) = IsLossOf h parts n o lost
    × AreLostBy h parts (n + 1) outcomes losses
AreLostBy h parts n _ _ = ⊥

-- a statement isn't lost unless out of memory
abbrev pub OnlyForMemory : Option Cause → Type 0
OnlyForMemory lost = lost ≢ None → lost ≡ Some cause.Memory

-- some query is lost when out of memory
abbrev pub SomeForMemory : List (Option Cause) → Type 0
SomeForMemory [] = ⊥
SomeForMemory (lost ∷ losses) = (lost ≡ Some cause.Memory) ⊎ SomeForMemory losses

-- and it is a query: among statements that come to these outcomes, one that isn't refused for its text
abbrev pub SomeQueryForMemory : List Outcome → List (Option Cause) → Type 0
SomeQueryForMemory (outcome.Planned p ∷ outcomes) (lost ∷ losses) = (lost ≡ Some cause.Memory)
    ⊎ SomeQueryForMemory outcomes losses
SomeQueryForMemory (outcome.Refused why ∷ outcomes) (lost ∷ losses) = SomeQueryForMemory outcomes losses
SomeQueryForMemory _ _ = ⊥
