-- Faults rise along a history.
use Rattle.std.proofs.Common.{◌≡◌, ◌≤◌, ◌∷◌, [], ℕ, Bool, Option, None, Some, sym, subst, arith}
use Rattle.scan_story.specs.declared.entry.Why.{Why}
use Rattle.scan_story.specs.declared.entry.Why.TheVariants.{Fault, Damage}
use Rattle.scan_story.specs.declared.entry.Entry.TheVariants.{Register, Plan, Evict, Fill, Filled, Failed, Deliver, Release, Stop, End}
use Rattle.scan_story.specs.declared.origin.Start.{Start}
use Rattle.scan_story.specs.declared.view.Load.{Load}
use Rattle.scan_story.specs.Views.{History}
use Rattle.scan_story.specs.Loads.{underway}
use Rattle.scan_story.specs.MayFollow.{IsReason}
use Rattle.scan_story.specs.Causes.{Licensed, last_fault}
use Rattle.abm_policy.specs.Depots.{DepotView, Agrees, ComesBack, MayReport, HasDepot, tells}

-- a license reaches to the last fault
pub licensed_tight : (told : Bool) (from to : ℕ) (h : History) → Licensed told from to h → Licensed told from (last_fault from h) h
licensed_tight told from to [] l = omega arith
licensed_tight told from to (Failed w q p (Fault before after) ∷ h) l = (omega arith, l.1, l.2)
licensed_tight told from to (Failed w q p (Damage word) ∷ h) l = (l.0, licensed_tight told from to h l.1)
licensed_tight told from to (Register w q ∷ h) l = licensed_tight told from to h l
licensed_tight told from to (Plan w q c ∷ h) l = licensed_tight told from to h l
licensed_tight told from to (Evict w c ∷ h) l = licensed_tight told from to h l
licensed_tight told from to (Fill w f p ∷ h) l = licensed_tight told from to h l
licensed_tight told from to (Filled w f p ∷ h) l = licensed_tight told from to h l
licensed_tight told from to (Deliver w q c ∷ h) l = licensed_tight told from to h l
licensed_tight told from to (Release w q c ∷ h) l = licensed_tight told from to h l
licensed_tight told from to (Stop w q ∷ h) l = licensed_tight told from to h l
licensed_tight told from to (End w q ∷ h) l = licensed_tight told from to h l

-- and to any later count
pub licensed_wide : (told : Bool) (from a b : ℕ) (h : History) → Licensed told from a h → a ≤ b → Licensed told from b h
licensed_wide told from a b [] l le = omega (arith, l, le)
licensed_wide told from a b (Failed w q p (Fault before after) ∷ h) l le = (omega (arith, l.0, le), l.1, l.2)
licensed_wide told from a b (Failed w q p (Damage word) ∷ h) l le = (l.0, licensed_wide told from a b h l.1 le)
licensed_wide told from a b (Register w q ∷ h) l le = licensed_wide told from a b h l le
licensed_wide told from a b (Plan w q c ∷ h) l le = licensed_wide told from a b h l le
licensed_wide told from a b (Evict w c ∷ h) l le = licensed_wide told from a b h l le
licensed_wide told from a b (Fill w f p ∷ h) l le = licensed_wide told from a b h l le
licensed_wide told from a b (Filled w f p ∷ h) l le = licensed_wide told from a b h l le
licensed_wide told from a b (Deliver w q c ∷ h) l le = licensed_wide told from a b h l le
licensed_wide told from a b (Release w q c ∷ h) l le = licensed_wide told from a b h l le
licensed_wide told from a b (Stop w q ∷ h) l le = licensed_wide told from a b h l le
licensed_wide told from a b (End w q ∷ h) l le = licensed_wide told from a b h l le

-- the last fault is within the license
pub last_within : (told : Bool) (from to : ℕ) (h : History) → Licensed told from to h → last_fault from h ≤ to
last_within told from to [] l = l
last_within told from to (Failed w q p (Fault before after) ∷ h) l = l.0
last_within told from to (Failed w q p (Damage word) ∷ h) l = last_within told from to h l.1
last_within told from to (Register w q ∷ h) l = last_within told from to h l
last_within told from to (Plan w q c ∷ h) l = last_within told from to h l
last_within told from to (Evict w c ∷ h) l = last_within told from to h l
last_within told from to (Fill w f p ∷ h) l = last_within told from to h l
last_within told from to (Filled w f p ∷ h) l = last_within told from to h l
last_within told from to (Deliver w q c ∷ h) l = last_within told from to h l
last_within told from to (Release w q c ∷ h) l = last_within told from to h l
last_within told from to (Stop w q ∷ h) l = last_within told from to h l
last_within told from to (End w q ∷ h) l = last_within told from to h l

-- Where the depot is

-- while no load is underway, it is here
pub depot_here : (o : Start) (h : History) (u : Option Load) (e : Option DepotView) (d : DepotView) → u ≡ None → e ≡ Some d → HasDepot o h u e → Agrees o h d
depot_here o h u e d none here has =
    let P : Option Load → Type 0 = λ x. HasDepot o h x e in
    let Q : Option DepotView → Type 0 = λ x. HasDepot o h None x in
    subst Q here (subst P none has)

-- while a load is underway, the story is licensed up to its last fault
pub licensed_out : (o : Start) (h : History) (u : Option Load) (e : Option DepotView) (l : Load) → u ≡ Some l → HasDepot o h u e → Licensed (tells o) o.faults (last_fault o.faults h) h
licensed_out o h u e l is has =
    let P : Option Load → Type 0 = λ x. HasDepot o h x e in
    both e (subst P is has)
  where
    both : (e : Option DepotView) → HasDepot o h (Some l) e → Licensed (tells o) o.faults (last_fault o.faults h) h
    both None x = x
    both (Some d) x = absurd x

-- a Plan takes it out
pub planned_depot : (o : Start) (h : History) (w q c : ℕ) (e : Option DepotView) (d : DepotView) → underway o.setting h ≡ None → e ≡ Some d → HasDepot o h (underway o.setting h) e
    → HasDepot o (Plan w q c ∷ h) (underway o.setting (Plan w q c ∷ h)) None
planned_depot o h w q c e d none here has =
    let a = depot_here o h (underway o.setting h) e d none here has in
    licensed_tight (tells o) o.faults d.faults h a.licensed

-- while a load stays underway, it stays out
pub still_out : (o : Start) (h k : History) (u v : Option Load) (l m : Load) (e : Option DepotView) → u ≡ Some l → v ≡ Some m → (HasDepot o h (Some l) None → HasDepot o k (Some m) None) → HasDepot o h u e → HasDepot o k v e
still_out o h k u v l m e is is' keep has =
    let P : Option Load → Type 0 = λ x. HasDepot o h x e in
    let Q : Option Load → Type 0 = λ x. HasDepot o k x e in
    subst Q (sym is') (both e (subst P is has))
  where
    both : (e : Option DepotView) → HasDepot o h (Some l) e → HasDepot o k (Some m) e
    both None x = keep x
    both (Some d) x = absurd x

-- it comes back with the last Filled
pub filled_depot : (o : Start) (h : History) (w f p : ℕ) (l : Load) (e : Option DepotView) (d : DepotView) → underway o.setting h ≡ Some l → HasDepot o h (underway o.setting h) e → underway o.setting (Filled w f p ∷ h) ≡ None → ComesBack o h 1 d
    → HasDepot o (Filled w f p ∷ h) (underway o.setting (Filled w f p ∷ h)) (Some d)
filled_depot o h w f p l e d is has closed back =
    let P : Option Load → Type 0 = λ u. HasDepot o (Filled w f p ∷ h) u (Some d) in
    let gets = back.gets in
    subst P (sym closed) (record {
      held = back.held;
      gets = omega (arith, gets);
      licensed = licensed_wide (tells o) o.faults (last_fault o.faults h) d.faults h (licensed_out o h (underway o.setting h) e l is has) back.faults;
    })

failed_license : (o : Start) (now : ℕ) (h : History) (w q p : ℕ) (why : Why) → Licensed (tells o) o.faults (last_fault o.faults h) h → MayReport o h now why → last_fault o.faults h ≤ now → Licensed (tells o) o.faults now (Failed w q p why ∷ h)
failed_license o now h w q p (Fault before after) l may le = (may.2, may.1, licensed_wide (tells o) o.faults (last_fault o.faults h) before h l may.0)
failed_license o now h w q p (Damage word) l may le = (may, licensed_wide (tells o) o.faults (last_fault o.faults h) now h l le)

-- and with a Failed
pub failed_depot : (o : Start) (h : History) (w q p : ℕ) (why : Why) (l : Load) (e : Option DepotView) (d : DepotView) → underway o.setting h ≡ Some l → HasDepot o h (underway o.setting h) e → ComesBack o h 1 d → MayReport o h d.faults why
    → HasDepot o (Failed w q p why ∷ h) (underway o.setting (Failed w q p why ∷ h)) (Some d)
failed_depot o h w q p why l e d is has back may =
    let gets = back.gets in
    record {
      held = back.held;
      gets = omega (arith, gets);
      licensed = failed_license o d.faults h w q p why (licensed_out o h (underway o.setting h) e l is has) may back.faults;
    }

pub reason_of : (o : Start) (h : History) (now : ℕ) (why : Why) → MayReport o h now why → IsReason why
reason_of o h now (Fault before after) may = may.1
reason_of o h now (Damage word) may = tt
