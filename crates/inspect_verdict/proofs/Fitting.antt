-- The causes of a story have numbers that its entries have.
use Rattle.std.proofs.Common.{◌+◌, ◌==◌, ◌∷◌, [], ◌++◌, ℕ, zero, suc, Bool, true, false, List, sym, subst}
use Rattle.std.specs.Prelude.{Option, Some, None}
use Rattle.std.specs.List.{AllByRecursion}
use Rattle.std.proofs.lemmas.List.{reverse-append}
use Rattle.scan_story.specs.declared.cause.Cause.{Cause}
use Rattle.scan_story.specs.declared.cause.Cause.TheVariants as cause
use Rattle.scan_story.specs.declared.entry.Why.{Why}
use Rattle.scan_story.specs.declared.entry.Why.TheVariants.{Fault, Damage}
use Rattle.scan_story.specs.declared.entry.Entry.{Entry}
use Rattle.scan_story.specs.declared.entry.Entry.TheVariants.{Register, Plan, Evict, Fill, Filled, Failed, Deliver, Release, Stop, End}
use Rattle.scan_story.specs.Causes.{cause_by, cause_of, or_else}
use Rattle.story_text.specs.Reading.{Fits}
use Rattle.scan_story.specs.Views.{History, past}
use Rattle.batch_plan.specs.Scans.{scan_number}
use Rattle.batch_ends.specs.Lost.{cause_from, cause_of_query, or_first}
use Rattle.inspect_verdict.specs.StatementParts.{FitsCause}

-- the numbers of the cause are few, where there is one
abbrev pub FitsWhere : Option Cause → Type 0
FitsWhere None = Unit {0}
FitsWhere (Some why) = FitsCause why

or_fits : (o : Option Cause) (b : Bool) (why : Cause) → FitsWhere o → FitsCause why → FitsWhere (or_else o b why)
or_fits (Some earlier) b why f g = f
or_fits None true why f g = g
or_fits None false why f g = tt

by_fits : (w q p : ℕ) (why : Why) → Fits (Failed w q p why) → FitsCause (cause_by why p)
by_fits w q p (Fault before after) f = tt
by_fits w q p (Damage word) f = f.2

scan_fits : (h : History) (q : ℕ) → AllByRecursion Fits h → FitsWhere (cause_of h q)
scan_fits [] q f = tt
scan_fits (Stop w r ∷ h) q f = or_fits (cause_of h q) (r == q) cause.Memory (scan_fits h q f.1) tt
scan_fits (Failed w r p why ∷ h) q f = or_fits (cause_of h q) (r == q) (cause_by why p) (scan_fits h q f.1) (by_fits w r p why f.0)
scan_fits (Register w r ∷ h) q f = scan_fits h q f.1
scan_fits (Plan w r c ∷ h) q f = scan_fits h q f.1
scan_fits (Evict w c ∷ h) q f = scan_fits h q f.1
scan_fits (Fill w r p ∷ h) q f = scan_fits h q f.1
scan_fits (Filled w r p ∷ h) q f = scan_fits h q f.1
scan_fits (Deliver w r c ∷ h) q f = scan_fits h q f.1
scan_fits (Release w r c ∷ h) q f = scan_fits h q f.1
scan_fits (End w r ∷ h) q f = scan_fits h q f.1

first_fits : (a b : Option Cause) → FitsWhere a → FitsWhere b → FitsWhere (or_first a b)
first_fits None b f g = g
first_fits (Some why) b f g = f

from_fits : (h : History) (parts query part left : ℕ) → AllByRecursion Fits h → FitsWhere (cause_from h parts query part left)
from_fits h parts query part zero f = tt
from_fits h parts query part (suc left) f = first_fits (cause_of h (scan_number parts query part)) (cause_from h parts query (part + 1) left) (scan_fits h (scan_number parts query part) f) (from_fits h parts query (part + 1) left f)

all_joined : (xs ys : List Entry) → AllByRecursion Fits xs → AllByRecursion Fits ys → AllByRecursion Fits (xs ++ ys)
all_joined [] ys f g = g
all_joined (x ∷ xs) ys f g = (f.0, all_joined xs ys f.1 g)

past_fits : (es : List Entry) → AllByRecursion Fits es → AllByRecursion Fits (past es)
past_fits [] f = tt
past_fits (e ∷ es) f = subst (AllByRecursion Fits) (sym (reverse-append (e ∷ []) es)) (all_joined (past es) (e ∷ []) (past_fits es f.1) (f.0, tt))

pub query_fits : (es : List Entry) (parts query : ℕ) → AllByRecursion Fits es → FitsWhere (cause_of_query (past es) parts query)
query_fits es parts query f = from_fits (past es) parts query 0 parts (past_fits es f)
