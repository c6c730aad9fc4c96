-- Why queries were stopped, and what faults of the depot a story may name.
use Rattle.std.specs.Prelude.{◌≡◌, ◌==◌, ◌≤◌, ◌⊎◌, false, ℕ, Bool, [], ◌∷◌, Option, None, Some, if◌then◌else◌}
use Rattle.scan_story.specs.declared.entry.Why.{Why}
use Rattle.scan_story.specs.declared.entry.Why.TheVariants.{Fault, Damage}
use Rattle.scan_story.specs.declared.entry.Entry.TheVariants.{Failed, Stop}
use Rattle.scan_story.specs.declared.cause.Cause.{Cause}
use Rattle.scan_story.specs.declared.cause.Cause.TheVariants as causes
use Rattle.scan_story.specs.Views.{History}
use Rattle.scan_story.specs.MayFollow.{IsRise}

abbrev pub cause_by : Why → ℕ → Cause
cause_by (Fault before after) p = causes.Read before after
cause_by (Damage word) p = causes.Damage p word

abbrev pub or_else : Option Cause → Bool → Cause → Option Cause
or_else (Some earlier) b cause = Some earlier
or_else None b cause = if b then Some cause else None

-- what the first Stop of q or Failed for q says
abbrev pub cause_of : History → ℕ → Option Cause
cause_of [] q = None
cause_of (Stop w r ∷ h) q = or_else (cause_of h q) (r == q) causes.Memory
cause_of (Failed w r p why ∷ h) q = or_else (cause_of h q) (r == q) (cause_by why p)
cause_of (_ ∷ h) q = cause_of h q

-- a query that isn't stopped may be lost when out of memory all the same
abbrev pub IsLost : History → ℕ → Option Cause → Type 0
IsLost h q lost = (lost ≡ cause_of h q) ⊎ ((cause_of h q ≡ None) × (lost ≡ Some causes.Memory))

-- the count after the last fault, or else the count at the start
abbrev pub last_fault : ℕ → History → ℕ
last_fault from [] = from
last_fault from (Failed w q p (Fault before after) ∷ h) = after
last_fault from (_ ∷ h) = last_fault from h

-- each fault has a rise of its own between the two counts, one after another; a depot that tells what it holds has no
-- damage
abbrev pub Licensed : Bool → ℕ → ℕ → History → Type 0
Licensed told from to [] = from ≤ to
Licensed told from to (Failed w q p (Fault before after) ∷ h) = (after ≤ to) × IsRise before after
    × Licensed told from before h
Licensed told from to (Failed w q p (Damage word) ∷ h) = (told ≡ false) × Licensed told from to h
Licensed told from to (_ ∷ h) = Licensed told from to h
