-- What is said of a story is said of the stories with which it begins.
use Rattle.std.proofs.Common.{◌≡◌, ◌≤◌, ◌∷◌, [], ◌++◌, ℕ, Bool, List, ◌∙◌, ap, subst, arith}
use Rattle.std.proofs.lemmas.List.{reverse-append}
use Rattle.scan_story.specs.declared.entry.Why.TheVariants.{Fault, Damage}
use Rattle.scan_story.specs.declared.entry.Entry.{Entry}
use Rattle.scan_story.specs.declared.entry.Entry.TheVariants.{Register, Plan, Evict, Fill, Filled, Failed, Deliver, Release, Stop, End}
use Rattle.scan_story.specs.declared.setting.Setting.{Setting}
use Rattle.scan_story.specs.Views.{History, past}
use Rattle.scan_story.specs.Legal.{Legal}
use Rattle.scan_story.specs.Whole.{Undisturbed}
use Rattle.scan_story.specs.Causes.{Licensed, last_fault}
use Rattle.scan_story.specs.Makers.{StartsWith}

-- the history of a story with one entry more
pub past_next : (es : List Entry) (e : Entry) → past (es ++ e ∷ []) ≡ e ∷ past es
past_next es e = reverse-append es (e ∷ [])

pub past_joined : (es new : List Entry) → past (es ++ new) ≡ past new ++ past es
past_joined es new = reverse-append es new

older_legal : (s : Setting) (new h : History) → Legal s (new ++ h) → Legal s h
older_legal s [] h k = k
older_legal s (e ∷ new) h k = older_legal s new h k.2

pub begin_legal : (s : Setting) (es begin : List Entry) → StartsWith es begin → Legal s (past es) → Legal s (past begin)
begin_legal s es begin starts k = older_legal s (past starts.0) (past begin) (subst (Legal s) (ap past starts.1 ∙ past_joined begin starts.0) k)

older_undisturbed : (s : Setting) (new h : History) → Undisturbed s (new ++ h) → Undisturbed s h
older_undisturbed s [] h k = k
older_undisturbed s (Evict w c ∷ new) h k = older_undisturbed s new h k.1
older_undisturbed s (Fill w f p ∷ new) h k = older_undisturbed s new h k.1
older_undisturbed s (Register w q ∷ new) h k = older_undisturbed s new h k
older_undisturbed s (Plan w q c ∷ new) h k = older_undisturbed s new h k
older_undisturbed s (Filled w f p ∷ new) h k = older_undisturbed s new h k
older_undisturbed s (Failed w q p why ∷ new) h k = older_undisturbed s new h k
older_undisturbed s (Deliver w q c ∷ new) h k = older_undisturbed s new h k
older_undisturbed s (Release w q c ∷ new) h k = older_undisturbed s new h k
older_undisturbed s (Stop w q ∷ new) h k = older_undisturbed s new h k
older_undisturbed s (End w q ∷ new) h k = older_undisturbed s new h k

pub begin_undisturbed : (s : Setting) (es begin : List Entry) → StartsWith es begin → Undisturbed s (past es) → Undisturbed s (past begin)
begin_undisturbed s es begin starts k = older_undisturbed s (past starts.0) (past begin) (subst (Undisturbed s) (ap past starts.1 ∙ past_joined begin starts.0) k)

-- Counts of faults

pub licensed_widen : (told : Bool) (from to wide : ℕ) (h : History) → to ≤ wide → Licensed told from to h → Licensed told from wide h
licensed_widen told from to wide [] le k = omega (arith, le, k)
licensed_widen told from to wide (Failed w q p (Fault b a) ∷ h) le k = (let t = k.0 in omega (arith, le, t), k.1, k.2)
licensed_widen told from to wide (Failed w q p (Damage i) ∷ h) le k = (k.0, licensed_widen told from to wide h le k.1)
licensed_widen told from to wide (Register w q ∷ h) le k = licensed_widen told from to wide h le k
licensed_widen told from to wide (Plan w q c ∷ h) le k = licensed_widen told from to wide h le k
licensed_widen told from to wide (Evict w c ∷ h) le k = licensed_widen told from to wide h le k
licensed_widen told from to wide (Fill w f p ∷ h) le k = licensed_widen told from to wide h le k
licensed_widen told from to wide (Filled w f p ∷ h) le k = licensed_widen told from to wide h le k
licensed_widen told from to wide (Deliver w q c ∷ h) le k = licensed_widen told from to wide h le k
licensed_widen told from to wide (Release w q c ∷ h) le k = licensed_widen told from to wide h le k
licensed_widen told from to wide (Stop w q ∷ h) le k = licensed_widen told from to wide h le k
licensed_widen told from to wide (End w q ∷ h) le k = licensed_widen told from to wide h le k

-- two stories, one after the other
pub licensed_joined : (told : Bool) (from mid to : ℕ) (h new : History) → Licensed told from mid h → Licensed told mid to new → Licensed told from to (new ++ h)
licensed_joined told from mid to h [] k l = licensed_widen told from mid to h l k
licensed_joined told from mid to h (Failed w q p (Fault b a) ∷ new) k l = (l.0, l.1, licensed_joined told from mid b h new k l.2)
licensed_joined told from mid to h (Failed w q p (Damage i) ∷ new) k l = (l.0, licensed_joined told from mid to h new k l.1)
licensed_joined told from mid to h (Register w q ∷ new) k l = licensed_joined told from mid to h new k l
licensed_joined told from mid to h (Plan w q c ∷ new) k l = licensed_joined told from mid to h new k l
licensed_joined told from mid to h (Evict w c ∷ new) k l = licensed_joined told from mid to h new k l
licensed_joined told from mid to h (Fill w f p ∷ new) k l = licensed_joined told from mid to h new k l
licensed_joined told from mid to h (Filled w f p ∷ new) k l = licensed_joined told from mid to h new k l
licensed_joined told from mid to h (Deliver w q c ∷ new) k l = licensed_joined told from mid to h new k l
licensed_joined told from mid to h (Release w q c ∷ new) k l = licensed_joined told from mid to h new k l
licensed_joined told from mid to h (Stop w q ∷ new) k l = licensed_joined told from mid to h new k l
licensed_joined told from mid to h (End w q ∷ new) k l = licensed_joined told from mid to h new k l

-- the last fault lies between the counts, and the story is licensed up to it
pub last_within : (told : Bool) (from to : ℕ) (h : History) → Licensed told from to h → last_fault from h ≤ to
last_within told from to [] k = k
last_within told from to (Failed w q p (Fault b a) ∷ h) k = k.0
last_within told from to (Failed w q p (Damage i) ∷ h) k = last_within told from to h k.1
last_within told from to (Register w q ∷ h) k = last_within told from to h k
last_within told from to (Plan w q c ∷ h) k = last_within told from to h k
last_within told from to (Evict w c ∷ h) k = last_within told from to h k
last_within told from to (Fill w f p ∷ h) k = last_within told from to h k
last_within told from to (Filled w f p ∷ h) k = last_within told from to h k
last_within told from to (Deliver w q c ∷ h) k = last_within told from to h k
last_within told from to (Release w q c ∷ h) k = last_within told from to h k
last_within told from to (Stop w q ∷ h) k = last_within told from to h k
last_within told from to (End w q ∷ h) k = last_within told from to h k

pub licensed_tight : (told : Bool) (from to : ℕ) (h : History) → Licensed told from to h → Licensed told from (last_fault from h) h
licensed_tight told from to [] k = omega arith
licensed_tight told from to (Failed w q p (Fault b a) ∷ h) k = (omega arith, k.1, k.2)
licensed_tight told from to (Failed w q p (Damage i) ∷ h) k = (k.0, licensed_tight told from to h k.1)
licensed_tight told from to (Register w q ∷ h) k = licensed_tight told from to h k
licensed_tight told from to (Plan w q c ∷ h) k = licensed_tight told from to h k
licensed_tight told from to (Evict w c ∷ h) k = licensed_tight told from to h k
licensed_tight told from to (Fill w f p ∷ h) k = licensed_tight told from to h k
licensed_tight told from to (Filled w f p ∷ h) k = licensed_tight told from to h k
licensed_tight told from to (Deliver w q c ∷ h) k = licensed_tight told from to h k
licensed_tight told from to (Release w q c ∷ h) k = licensed_tight told from to h k
licensed_tight told from to (Stop w q ∷ h) k = licensed_tight told from to h k
licensed_tight told from to (End w q ∷ h) k = licensed_tight told from to h k
