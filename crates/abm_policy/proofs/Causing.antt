-- A query has a cause exactly where it is stopped.
use Rattle.std.proofs.Common.{◌≡◌, ◌==◌, ◌||◌, ◌∷◌, [], ℕ, Bool, true, false, Option, None, Some, is_some, refl, ◌∙◌, ap}
use Rattle.scan_story.specs.declared.entry.Entry.TheVariants.{Register, Plan, Evict, Fill, Filled, Failed, Deliver, Release, Stop, End}
use Rattle.scan_story.specs.declared.cause.Cause.{Cause}
use Rattle.scan_story.specs.declared.cause.Cause.TheVariants.{Memory}
use Rattle.scan_story.specs.Views.{History, is_stopped}
use Rattle.scan_story.specs.Causes.{cause_of, cause_by, or_else}

some_or : (o : Option Cause) (b : Bool) (m : Cause) → is_some (or_else o b m) ≡ (b || is_some o)
some_or (Some c) true m = refl
some_or (Some c) false m = refl
some_or None true m = refl
some_or None false m = refl

pub has_cause : (h : History) (q : ℕ) → is_some (cause_of h q) ≡ is_stopped h q
has_cause [] q = refl
has_cause (Stop w r ∷ h) q = some_or (cause_of h q) (r == q) Memory ∙ ap (λ b. r == q || b) (has_cause h q)
has_cause (Failed w r p why ∷ h) q = some_or (cause_of h q) (r == q) (cause_by why p) ∙ ap (λ b. r == q || b) (has_cause h q)
has_cause (Register w r ∷ h) q = has_cause h q
has_cause (Plan w r c ∷ h) q = has_cause h q
has_cause (Evict w c ∷ h) q = has_cause h q
has_cause (Fill w f p ∷ h) q = has_cause h q
has_cause (Filled w f p ∷ h) q = has_cause h q
has_cause (Deliver w r c ∷ h) q = has_cause h q
has_cause (Release w r c ∷ h) q = has_cause h q
has_cause (End w r ∷ h) q = has_cause h q
