-- What a turn of a scan's worker comes to.
use Rattle.std.proofs.Common.{◌≡◌, ◌≢◌, ◌==◌, ◌<◌, ◌++◌, ◌∷◌, [], ℕ, zero, suc, Bool, true, false, not, if◌then◌else◌, List, Some, is_some, length, nat_lt, arith, refl, sym, ap, ◌∙◌, subst}
use Rattle.std.proofs.lemmas.List.{append-nil}
use Rattle.scan_story.specs.declared.entry.Entry.{Entry}
use Rattle.scan_story.specs.declared.entry.Entry.TheVariants.{Plan, Deliver, End}
use Rattle.scan_story.specs.declared.origin.Start.{Start}
use Rattle.scan_story.specs.declared.setting.Setting.{Setting}
use Rattle.scan_story.specs.Counting.{any_below, has}
use Rattle.scan_story.specs.Loads.{is_load_by, underway}
use Rattle.scan_story.specs.Makers.{AllBy}
use Rattle.scan_story.specs.MayFollow.{IsIdle, is_ready}
use Rattle.scan_story.specs.Numbers.{needed}
use Rattle.scan_story.specs.Views.{History, held_by, is_active, is_available, is_ended, is_registered, is_stopped, past, piece_in}
use Rattle.scan_story.proofs.Prefixes.{past_next}
use Rattle.story_laws.specs.Lists.{NoneTwice}
use Rattle.story_laws.proofs.Bools.{and_both, and_off_left, and_off_right, below, if_here, not_both, or_left, or_right, same_number, same_some, self_number}
use Rattle.abm_policy.specs.declared.turn.Turn.{Turn}
use Rattle.abm_policy.specs.declared.turn.Turn.TheVariants.{Take, Load, NotYet, Finished, Stopped}
use Rattle.abm_policy.specs.Depots.{DepotView}
use Rattle.abm_policy.specs.Loads.{evicts, fills, pieces}
use Rattle.abm_policy.specs.Turns.{Answers, FinishedRow, LoadRow, NotYetRow, StandIn, StoppedRow, TakeRow, row}
use Rattle.frame_rows.specs.Pins.{AreFrames, slot_at}
use Rattle.cscan.proofs.Stories.{by_append, evicts_by, fills_by}

-- Rows

module _ (s : Setting) (h : History) (q : ℕ) where
  of_stopped : (a b c d : Bool) → StoppedRow ≡ (if a then StoppedRow else (if b then FinishedRow else (if c then TakeRow else (if d then NotYetRow else LoadRow)))) → a ≡ true
  of_stopped true b c d e = refl
  of_stopped false true c d e = absurd cc
  of_stopped false false true d e = absurd cc
  of_stopped false false false true e = absurd cc
  of_stopped false false false false e = absurd cc

  of_finished : (a b c d : Bool) → FinishedRow ≡ (if a then StoppedRow else (if b then FinishedRow else (if c then TakeRow else (if d then NotYetRow else LoadRow)))) → (a ≡ false) × (b ≡ true)
  of_finished true b c d e = absurd cc
  of_finished false true c d e = (refl, refl)
  of_finished false false true d e = absurd cc
  of_finished false false false true e = absurd cc
  of_finished false false false false e = absurd cc

  pub row_stopped : StoppedRow ≡ row s h q → is_stopped h q ≡ true
  row_stopped e = of_stopped (is_stopped h q) (needed s h q == 0) (any_below (is_ready s h q) s.chunks) (is_some (underway s h)) e

  pub row_finished : FinishedRow ≡ row s h q → (is_stopped h q ≡ false) × (needed s h q ≡ 0)
  row_finished e =
      let r = of_finished (is_stopped h q) (needed s h q == 0) (any_below (is_ready s h q) s.chunks) (is_some (underway s h)) e in
      (r.0, same_number (needed s h q) 0 r.1)

-- Entries

-- a turn adds entries of its worker
pub turn_added : {D : Type 0} (view : D → DepotView) (o : Start) (w q : ℕ) (old new : List Entry) (t : Turn D) → Answers view o w q old new t → (added : List Entry) × (new ≡ old ++ added) × AllBy w added
turn_added view o w q old new (Stopped cause) a = ([], a.0 ∙ sym (append-nil old), tt)
turn_added view o w q old new Finished a = (End w q ∷ [], a, (refl, tt))
turn_added view o w q old new (Take c slots) a = (Deliver w q c ∷ [], a.added, (refl, tt))
turn_added view o w q old new NotYet a = ([], a ∙ sym (append-nil old), tt)
turn_added view o w q old new (Load t d) a =
    let l = a.load in
    (Plan w t.query t.chunk ∷ evicts w l.evicted ++ fills w t.slots, l.added, (refl, by_append w (evicts w l.evicted) (fills w t.slots) (evicts_by w l.evicted) (fills_by w t.slots)))

-- after a Deliver the worker holds the chunk
pub held_after : (es new : List Entry) (w q c : ℕ) → new ≡ es ++ Deliver w q c ∷ [] → held_by (past new) w ≡ Some (record { query = q; chunk = c })
held_after es new w q c is =
    ap (λ (l : List Entry). held_by (past l) w) is ∙ (ap (λ (h : History). held_by h w) (past_next es (Deliver w q c)) ∙ if_here (w == w) (Some (record { query = q; chunk = c })) (held_by (past es) w) (self_number w))

pub load_after : (s : Setting) (es new : List Entry) (w q c : ℕ) → new ≡ es ++ Deliver w q c ∷ [] → is_load_by w (underway s (past es)) ≡ false → is_load_by w (underway s (past new)) ≡ false
load_after s es new w q c is e = ap (λ (l : List Entry). is_load_by w (underway s (past l))) is ∙ (ap (λ (h : History). is_load_by w (underway s h)) (past_next es (Deliver w q c)) ∙ e)

pub ended_inactive : (es new : List Entry) (w q : ℕ) → new ≡ es ++ End w q ∷ [] → is_active (past new) q ≡ false
ended_inactive es new w q is =
    let h = past es in
    let ended : is_ended (End w q ∷ h) q ≡ true = or_left (q == q) (is_ended h q) (self_number q) in
    ap (λ (l : List Entry). is_active (past l) q) is
    ∙ (ap (λ (k : History). is_active k q) (past_next es (End w q)) ∙ and_off_right _ (not (is_ended (End w q ∷ h) q)) (ap not ended))

pub ended_idle : (s : Setting) (es new : List Entry) (w q : ℕ) → new ≡ es ++ End w q ∷ [] → IsIdle s (past es) w → IsIdle s (past new) w
ended_idle s es new w q is idle =
    subst (λ (l : List Entry). IsIdle s (past l) w) (sym is)
    (subst (λ (h : History). IsIdle s h w) (sym (past_next es (End w q))) (record { holds_nothing = idle.holds_nothing; loads_nothing = idle.loads_nothing }))

pub stopped_inactive : (h : History) (q : ℕ) → is_stopped h q ≡ true → is_active h q ≡ false
stopped_inactive h q e = and_off_left _ (not (is_ended h q)) (and_off_right (is_registered h q) (not (is_stopped h q)) (ap not e))

-- a chunk that is available is one of the table
pub ready_below : (s : Setting) (h : History) (q c : ℕ) → is_ready s h q c ≡ true → c < s.chunks
ready_below s h q c e = below c s.chunks (and_both (nat_lt c s.chunks) (is_available s h q c) e).0

-- Slots

has_at : (slots : List (ℕ × ℕ)) (k : ℕ) → k < length slots → has (pieces slots) (slot_at slots k).1 ≡ true
has_at [] k low = absurd (omega (arith, low))
has_at (b ∷ bs) zero low = or_left (b.1 == b.1) (has (pieces bs) b.1) (self_number b.1)
has_at (b ∷ bs) (suc k) low = or_right (b.1 == (slot_at bs k).1) (has (pieces bs) (slot_at bs k).1) (has_at bs k (omega (arith, low)))

pieces_apart : (slots : List (ℕ × ℕ)) → NoneTwice (pieces slots) → (i j : ℕ) → i < j → j < length slots → (slot_at slots i).1 ≢ (slot_at slots j).1
pieces_apart [] once i j less low e = absurd (omega (arith, low))
pieces_apart (b ∷ bs) once zero zero less low e = absurd (omega (arith, less))
pieces_apart (b ∷ bs) once zero (suc j) less low e = not_both (has (pieces bs) b.1) (ap (has (pieces bs)) e ∙ has_at bs j (omega (arith, low))) once.0
pieces_apart (b ∷ bs) once (suc i) zero less low e = absurd (omega (arith, less))
pieces_apart (b ∷ bs) once (suc i) (suc j) less low e = pieces_apart bs once.1 i j (omega (arith, less)) (omega (arith, low)) e

pub stand_at : (s : Setting) (h : History) (slots : List (ℕ × ℕ)) → StandIn s h slots → (i : ℕ) → i < length slots → ((slot_at slots i).0 < s.frames) × (piece_in s h (slot_at slots i).0 ≡ Some (slot_at slots i).1)
stand_at s h [] st i low = absurd (omega (arith, low))
stand_at s h (b ∷ bs) st zero low = (st.0, st.1)
stand_at s h (b ∷ bs) st (suc i) low = stand_at s h bs st.2 i (omega (arith, low))

-- slots whose pieces stand in their frames, no piece twice, are of frames of their own
pub stand_apart : (s : Setting) (h : History) (slots : List (ℕ × ℕ)) → StandIn s h slots → NoneTwice (pieces slots) → AreFrames s.frames slots
stand_apart s h slots st once = record {
  within = λ i low. (stand_at s h slots st i low).0;
  apart = λ i j less low e. (let a = stand_at s h slots st i (omega (arith, less, low)) in
      let b = stand_at s h slots st j low in
      pieces_apart slots once i j less low (same_some (slot_at slots i).1 (slot_at slots j).1 (sym a.1 ∙ (ap (piece_in s h) e ∙ b.1))));
}
