-- Why queries are stopped while the count of faults stays.
use Rattle.std.proofs.Common.{◌≡◌, ◌∙◌, ◌<◌, ◌≤◌, ◌+◌, ◌-◌, ◌^◌, ◌==◌, ℕ, zero, suc, Bool, true, false, [], ◌∷◌, arith, refl, sym}
use Rattle.std.specs.Prelude.{Option, None, Some}
use Rattle.scan_story.specs.declared.cause.Cause.{Cause}
use Rattle.scan_story.specs.declared.cause.Cause.TheVariants as cause
use Rattle.scan_story.specs.declared.entry.Why.TheVariants.{Damage, Fault}
use Rattle.scan_story.specs.declared.entry.Entry.TheVariants.{Deliver, End, Evict, Failed, Fill, Filled, Plan, Register, Release, Stop}
use Rattle.scan_story.specs.Causes.{Licensed, cause_of, or_else}
use Rattle.scan_story.specs.Views.{History}
use Rattle.batch_plan.specs.Scans.{scan_number}
use Rattle.batch_ends.specs.Lost.{cause_from, or_first}

-- a licence begins no later than it ends
pub licence_rises : (told : Bool) (from to : ℕ) (h : History) → Licensed told from to h → from ≤ to
licence_rises told from to [] licensed = licensed
licence_rises told from to (Failed w q p (Fault before after) ∷ h) licensed = let rest = licence_rises told from before h licensed.2 in let rise = licensed.1 in omega (arith, rest, licensed.0, rise)
licence_rises told from to (Failed w q p (Damage word) ∷ h) licensed = licence_rises told from to h licensed.1
licence_rises told from to (Register w q ∷ h) licensed = licence_rises told from to h licensed
licence_rises told from to (Plan w q c ∷ h) licensed = licence_rises told from to h licensed
licence_rises told from to (Evict w c ∷ h) licensed = licence_rises told from to h licensed
licence_rises told from to (Fill w f p ∷ h) licensed = licence_rises told from to h licensed
licence_rises told from to (Filled w f p ∷ h) licensed = licence_rises told from to h licensed
licence_rises told from to (Deliver w q c ∷ h) licensed = licence_rises told from to h licensed
licence_rises told from to (Release w q c ∷ h) licensed = licence_rises told from to h licensed
licence_rises told from to (Stop w q ∷ h) licensed = licence_rises told from to h licensed
licence_rises told from to (End w q ∷ h) licensed = licence_rises told from to h licensed

-- what is licensed from a count on is licensed from an earlier one on
pub licensed_sooner : (told : Bool) (from sooner to : ℕ) (h : History) → sooner ≤ from → Licensed told from to h → Licensed told sooner to h
licensed_sooner told from sooner to [] low licensed = omega (arith, low, licensed)
licensed_sooner told from sooner to (Failed w q p (Fault before after) ∷ h) low licensed = (licensed.0, licensed.1, licensed_sooner told from sooner before h low licensed.2)
licensed_sooner told from sooner to (Failed w q p (Damage word) ∷ h) low licensed = (licensed.0, licensed_sooner told from sooner to h low licensed.1)
licensed_sooner told from sooner to (Register w q ∷ h) low licensed = licensed_sooner told from sooner to h low licensed
licensed_sooner told from sooner to (Plan w q c ∷ h) low licensed = licensed_sooner told from sooner to h low licensed
licensed_sooner told from sooner to (Evict w c ∷ h) low licensed = licensed_sooner told from sooner to h low licensed
licensed_sooner told from sooner to (Fill w f p ∷ h) low licensed = licensed_sooner told from sooner to h low licensed
licensed_sooner told from sooner to (Filled w f p ∷ h) low licensed = licensed_sooner told from sooner to h low licensed
licensed_sooner told from sooner to (Deliver w q c ∷ h) low licensed = licensed_sooner told from sooner to h low licensed
licensed_sooner told from sooner to (Release w q c ∷ h) low licensed = licensed_sooner told from sooner to h low licensed
licensed_sooner told from sooner to (Stop w q ∷ h) low licensed = licensed_sooner told from sooner to h low licensed
licensed_sooner told from sooner to (End w q ∷ h) low licensed = licensed_sooner told from sooner to h low licensed

module _ (n : ℕ) (low : n < 2 ^ 64 - 1) where
  stop_or : (o : Option Cause) (b : Bool) (why : Cause) → ((c : Cause) → o ≡ Some c → c ≡ cause.Memory) → or_else o b cause.Memory ≡ Some why → why ≡ cause.Memory
  stop_or (Some c) b why each is = let same : c ≡ why = cc in sym same ∙ each c refl
  stop_or None true why each is = let same : cause.Memory ≡ why = cc in sym same
  stop_or None false why each is = absurd (cc)

  one_for_memory : (h : History) → Licensed true n n h → (q : ℕ) (why : Cause) → cause_of h q ≡ Some why → why ≡ cause.Memory
  one_for_memory [] licensed q why is = absurd (cc)
  one_for_memory (Failed w r p (Fault before after) ∷ h) licensed q why is = let rest = licence_rises true n before h licensed.2 in let rise = licensed.1 in absurd (omega (arith, rest, rise, licensed.0, low))
  one_for_memory (Failed w r p (Damage word) ∷ h) licensed q why is = let no : true ≡ false = licensed.0 in absurd (cc)
  one_for_memory (Stop w r ∷ h) licensed q why is = stop_or (cause_of h q) (r == q) why (λ c. one_for_memory h licensed q c) is
  one_for_memory (Register w r ∷ h) licensed q why is = one_for_memory h licensed q why is
  one_for_memory (Plan w r c ∷ h) licensed q why is = one_for_memory h licensed q why is
  one_for_memory (Evict w c ∷ h) licensed q why is = one_for_memory h licensed q why is
  one_for_memory (Fill w f p ∷ h) licensed q why is = one_for_memory h licensed q why is
  one_for_memory (Filled w f p ∷ h) licensed q why is = one_for_memory h licensed q why is
  one_for_memory (Deliver w r c ∷ h) licensed q why is = one_for_memory h licensed q why is
  one_for_memory (Release w r c ∷ h) licensed q why is = one_for_memory h licensed q why is
  one_for_memory (End w r ∷ h) licensed q why is = one_for_memory h licensed q why is

  first_or : (first later : Option Cause) (why : Cause) → or_first first later ≡ Some why → ((c : Cause) → first ≡ Some c → c ≡ cause.Memory) → ((c : Cause) → later ≡ Some c → c ≡ cause.Memory) → why ≡ cause.Memory
  first_or None later why is first rest = rest why is
  first_or (Some c) later why is first rest = first why is

  pub lost_for_memory : (h : History) → Licensed true n n h → (parts query part left : ℕ) (why : Cause) → cause_from h parts query part left ≡ Some why → why ≡ cause.Memory
  lost_for_memory h licensed parts query part zero why is = absurd (cc)
  lost_for_memory h licensed parts query part (suc left) why is =
      first_or (cause_of h (scan_number parts query part)) (cause_from h parts query (part + 1) left) why is (one_for_memory h licensed (scan_number parts query part)) (lost_for_memory h licensed parts query (part + 1) left)
