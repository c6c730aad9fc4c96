-- Over a depot that tells what it holds and counted no fault, queries are lost only when out of memory.
use Rattle.std.proofs.Common.{◌≤◌, ◌+◌, ◌==◌, ℕ, zero, suc, Bool, true, false, List, [], ◌∷◌, Option, Some, None, refl, sym, subst, arith, inl, inr}
use Rattle.std.specs.Prelude.{is_some}
use Rattle.std.specs.List.{AllByRecursion}
use Rattle.coop_outside.specs.Causes.{Rose}
use Rattle.coop_outside.specs.Pieces.{Stored}
use Rattle.scan_story.specs.declared.cause.Cause.{Cause}
use Rattle.scan_story.specs.declared.cause.Cause.TheVariants as cause
use Rattle.scan_story.specs.declared.entry.Why.TheVariants.{Fault, Damage}
use Rattle.scan_story.specs.declared.entry.Entry.TheVariants.{Register, Plan, Evict, Fill, Filled, Failed, Deliver, Release, Stop, End}
use Rattle.scan_story.specs.Causes.{Licensed, cause_of, or_else}
use Rattle.scan_story.specs.MayFollow.{IsRise}
use Rattle.scan_story.specs.Views.{History}
use Rattle.batch_plan.specs.Scans.{scan_number}
use Rattle.batch_ends.specs.Lost.{IsLostBy, Tells, cause_from, or_first}
use Rattle.run_stops.specs.declared.outcome.Outcome.{Outcome}
use Rattle.run_stops.specs.declared.outcome.Outcome.TheVariants as outcome
use Rattle.run_ends.specs.Losses.{AreLostBy, IsLossOf, OnlyForMemory}

-- the counts of a licensed story don't fall
pub licensed-rises : (told : Bool) (from to : ℕ) (h : History) → Licensed told from to h → from ≤ to
licensed-rises told from to [] is = is
licensed-rises told from to (Register w q ∷ h) is = licensed-rises told from to h is
licensed-rises told from to (Plan w q c ∷ h) is = licensed-rises told from to h is
licensed-rises told from to (Evict w c ∷ h) is = licensed-rises told from to h is
licensed-rises told from to (Fill w f p ∷ h) is = licensed-rises told from to h is
licensed-rises told from to (Filled w f p ∷ h) is = licensed-rises told from to h is
licensed-rises told from to (Failed w q p (Fault before after) ∷ h) (high, inl less, rest) = let low = licensed-rises told from before h rest in omega (arith, high, less, low)
licensed-rises told from to (Failed w q p (Fault before after) ∷ h) (high, inr (last, last'), rest) = let low = licensed-rises told from before h rest in omega (arith, high, last, last', low)
licensed-rises told from to (Failed w q p (Damage word) ∷ h) (untold, rest) = licensed-rises told from to h rest
licensed-rises told from to (Deliver w q c ∷ h) is = licensed-rises told from to h is
licensed-rises told from to (Release w q c ∷ h) is = licensed-rises told from to h is
licensed-rises told from to (Stop w q ∷ h) is = licensed-rises told from to h is
licensed-rises told from to (End w q ∷ h) is = licensed-rises told from to h is

-- a fault is a rise of the whole way
fault-rose : (from before after to : ℕ) → from ≤ before → after ≤ to → IsRise before after → Rose from to
fault-rose from before after to low high (inl less) = omega arith
fault-rose from before after to low high (inr (last, last')) = omega arith

no-loss : OnlyForMemory None
no-loss some = absurd (some refl)

memory-first : (o : Option Cause) (b : Bool) → OnlyForMemory o → OnlyForMemory (or_else o b cause.Memory)
memory-first None true h = λ some. refl
memory-first None false h = h
memory-first (Some why) b h = h

only-causes : (from to : ℕ) (h : History) (q : ℕ) → (Rose from to → ⊥) → Licensed true from to h → OnlyForMemory (cause_of h q)
only-causes from to [] q none is = no-loss
only-causes from to (Register w r ∷ h) q none is = only-causes from to h q none is
only-causes from to (Plan w r c ∷ h) q none is = only-causes from to h q none is
only-causes from to (Evict w c ∷ h) q none is = only-causes from to h q none is
only-causes from to (Fill w f p ∷ h) q none is = only-causes from to h q none is
only-causes from to (Filled w f p ∷ h) q none is = only-causes from to h q none is
only-causes from to (Failed w r p (Fault before after) ∷ h) q none (high, rise, rest) = absurd (none (fault-rose from before after to (licensed-rises true from before h rest) high rise))
only-causes from to (Failed w r p (Damage word) ∷ h) q none (untold, rest) = cc untold
only-causes from to (Deliver w r c ∷ h) q none is = only-causes from to h q none is
only-causes from to (Release w r c ∷ h) q none is = only-causes from to h q none is
only-causes from to (Stop w r ∷ h) q none is = memory-first (cause_of h q) (r == q) (only-causes from to h q none is)
only-causes from to (End w r ∷ h) q none is = only-causes from to h q none is

either-first : (a b : Option Cause) → OnlyForMemory a → OnlyForMemory b → OnlyForMemory (or_first a b)
either-first None b first later = later
either-first (Some why) b first later = first

only-parts : (from to : ℕ) (h : History) (parts query part left : ℕ) → (Rose from to → ⊥) → Licensed true from to h → OnlyForMemory (cause_from h parts query part left)
only-parts from to h parts query part zero none is = no-loss
only-parts from to h parts query part (suc left) none is =
    either-first (cause_of h (scan_number parts query part)) (cause_from h parts query (part + 1) left) (only-causes from to h (scan_number parts query part) none is) (only-parts from to h parts query (part + 1) left none is)

only-lost : (from to : ℕ) (h : History) (parts query : ℕ) (lost : Option Cause) → (Rose from to → ⊥) → Licensed true from to h → IsLostBy h parts query lost → OnlyForMemory lost
only-lost from to h parts query lost none is (inl same) = subst OnlyForMemory (sym same) (only-parts from to h parts query 0 parts none is)
only-lost from to h parts query lost none is (inr (other, memory)) = λ some. memory

only-loss : (from to : ℕ) (h : History) (parts n : ℕ) (o : Outcome) (lost : Option Cause) → (Rose from to → ⊥) → Licensed true from to h → IsLossOf h parts n o lost → OnlyForMemory lost
only-loss from to h parts n (outcome.Planned p) lost none is by = only-lost from to h parts n lost none is by
only-loss from to h parts n (outcome.Refused why) lost none is (kept, other) = subst OnlyForMemory (sym kept) no-loss

pub only-memory : (held : Stored) (h : History) (parts from to : ℕ) → Tells held → (Rose from to → ⊥) → Licensed (is_some held) from to h → (n : ℕ) (os : List Outcome) (losses : List (Option Cause))
    → AreLostBy h parts n os losses → AllByRecursion OnlyForMemory losses
only-memory None h parts from to tells none is n os losses lost = absurd tells
only-memory (Some pieces) h parts from to tells none is n os [] lost = tt
only-memory (Some pieces) h parts from to tells none is n [] (l ∷ losses) lost = absurd lost
only-memory (Some pieces) h parts from to tells none is n (o ∷ os) (l ∷ losses) lost =
    (only-loss from to h parts n o l none is lost.0, only-memory (Some pieces) h parts from to tells none is (n + 1) os losses lost.1)
