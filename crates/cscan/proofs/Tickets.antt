-- The slots of a ticket, and the depot that comes back with it.
use Rattle.std.proofs.Common.{◌≡◌, ◌==◌, ◌&&◌, ◌<◌, ◌≤◌, ◌-◌, ◌*◌, ◌/◌, ◌∷◌, [], ℕ, zero, suc, Bool, true, List, Some, Result, Ok, Err, IfErr, OnOk, is_some, length, get_or, reverse, arith, sym, ap, ◌∙◌, subst}
use Rattle.std.proofs.lemmas.List.{get_or-reverse, length-reverse}
use Rattle.std.proofs.Math.Nat.{div-lt_iff_lt-mul}
use Rattle.std.specs.List.{list_any}
use Rattle.coop_outside.specs.Pieces.{Stored}
use Rattle.scan_story.specs.declared.entry.Why.{Why}
use Rattle.scan_story.specs.declared.entry.Why.TheVariants.{Fault, Damage}
use Rattle.scan_story.specs.declared.origin.Start.{Start}
use Rattle.scan_story.specs.Causes.{last_fault}
use Rattle.scan_story.specs.Legal.{Legal}
use Rattle.scan_story.specs.Loads.{begins, begins_in, underway}
use Rattle.scan_story.specs.Setting.{IsStart}
use Rattle.scan_story.specs.Views.{History}
use Rattle.story_laws.proofs.Bools.{both_and, or_left, or_right, self_number}
use Rattle.story_laws.proofs.Grouped.{grouped}
use Rattle.story_laws.proofs.Laws.{loads_are_proper}
use Rattle.abm_policy.specs.declared.ticket.Ticket.{Ticket}
use Rattle.abm_policy.specs.Depots.{MayReport}
use Rattle.abm_policy.specs.Loads.{load_of}
use Rattle.frame_pool.specs.Berths.{PoolView}
use Rattle.frame_pool.specs.Frames.{Told}
use Rattle.piece_format.specs.Shape.{TableShape, pieces}
use Rattle.frame_rows.specs.Pins.{slot_at}
use Rattle.cscan.specs.Reads as reads
use Rattle.cscan.specs.Scans.{Fits}

any_at : {A : Type 0} (t : A → Bool) (xs : List A) (k : ℕ) (d : A) → k < length xs → t (get_or xs k d) ≡ true → list_any t xs ≡ true
any_at t [] k d low e = absurd (omega (arith, low))
any_at t (x ∷ xs) zero d low e = or_left (t x) (list_any t xs) e
any_at t (x ∷ xs) (suc k) d low e = or_right (t x) (list_any t xs) (any_at t xs k d (omega (arith, low)) e)

any_reversed : {A : Type 0} (t : A → Bool) (xs : List A) (k : ℕ) (d : A) → k < length xs → t (get_or xs k d) ≡ true → list_any t (reverse xs) ≡ true
any_reversed t xs k d low e =
    let back : length xs - 1 - (length xs - 1 - k) ≡ k = omega (arith, low) in
    let less : length xs - 1 - k < length xs = omega (arith, low) in
    let inside : length xs - 1 - k < length (reverse xs) = omega (arith, less, length-reverse xs) in
    any_at t (reverse xs) (length xs - 1 - k) d inside (ap t (get_or-reverse xs (length xs - 1 - k) d less ∙ ap (λ (n : ℕ). get_or xs n d) back) ∙ e)

-- the frames and pieces of a ticket whose load is underway are the pool's and the table's
pub ticket_there : (o : Start) (told : Told) (z : TableShape) (pool : PoolView) (h : History) (t : Ticket) → IsStart o → Fits o told z pool → Legal o.setting h → underway o.setting h ≡ Some (load_of t [])
    → reads.AreThere pool.shape.frames (pieces z) t.slots
ticket_there o told z pool h t start fits legal u i low =
    let s = o.setting in
    let l = load_of t [] in
    let f : ℕ = (slot_at t.slots i).0 in
    let p : ℕ = (slot_at t.slots i).1 in
    let proper = loads_are_proper s h start.setting start.room legal l u in
    let both : begins_in l f p ≡ true = any_reversed (λ (b : ℕ × ℕ). b.0 == f && b.1 == p) t.slots i (0, 0) low (both_and (f == f) (p == p) (self_number f) (self_number p)) in
    let begun : begins l p ≡ true = any_reversed (λ (b : ℕ × ℕ). b.1 == p) t.slots i (0, 0) low (self_number p) in
    let frame = proper.begun.frame f p both in
    let of_chunk = proper.missing.of_chunk p (proper.begun.missing p begun) in
    let some = (grouped s start.setting).some in
    let chunk : p / s.groups < s.chunks = omega (arith, of_chunk, proper.chunk) in
    let piece : p < s.chunks * s.groups = (div-lt_iff_lt-mul {k = s.groups} {x = p} {y = s.chunks} some).0 chunk in
    (omega (arith, frame, fits.frames), subst (λ (n : ℕ). p < n) (λ j. fits.chunks j * fits.groups j) piece)

-- what a result says, said of what follows from it
pub on_ok : {A E : Type 0} (r : Result A E) (P Q : Type 0) → (P → Q) → OnOk r P → OnOk r Q
on_ok (Ok x) P Q f p = f p
on_ok (Err e) P Q f p = tt

pub if_err : {A E : Type 0} (r : Result A E) (P Q : E → Type 0) → ((e : E) → P e → Q e) → IfErr r P → IfErr r Q
if_err (Ok x) P Q f p = tt
if_err (Err e) P Q f p = f e p

-- why a read failed may be reported
pub may_report : (o : Start) (h : History) (held : Stored) (from to : ℕ) (why : Why) → held ≡ o.held → last_fault o.faults h ≤ from → reads.MayReport held from to why → MayReport o h to why
may_report o h held from to (Fault before after) same low may = (omega (arith, low, may.0), may.1, may.2)
may_report o h held from to (Damage word) same low may = ap is_some (sym same ∙ may)

-- a report of the reads since some of the depot's calls is one of the reads since an earlier call
pub reports_since : (held later : Stored) (from mid to : ℕ) (why : Why) → later ≡ held → from ≤ mid → reads.MayReport later mid to why → reads.MayReport held from to why
reports_since held later from mid to (Fault before after) same low may = (omega (arith, low, may.0), may.1, may.2)
reports_since held later from mid to (Damage word) same low may = sym same ∙ may
