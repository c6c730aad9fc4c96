-- What is pinned after the first slots.
use Rattle.std.proofs.Common.{◌≡◌, ◌≢◌, ℕ, zero, suc, ◌-◌, ◌<◌, ◌≤◌, List, Some, None, refl, sym, ap, ◌∙◌, arith, subst}
use mathlib.Core.Logic.{dite}
use native.Mathlib.Decide.{ℕ_discrete}
use Rattle.frame_pool.specs.declared.view.Pin.{Pin}
use Rattle.frame_pool.specs.Views.{pinned, unpinned}
use Rattle.frame_pool.specs.Berths.{BerthView, unpins}
use Rattle.frame_pool.proofs.Views.{pinned_here, pinned_else, unpinned_again}
use Rattle.frame_rows.specs.Pins.{slot_at, first_pins, with_pins}

-- no two slots of the first ones are of one frame
abbrev pub Apart : ℕ → List (ℕ × ℕ) → Type 0
Apart len slots = (i j : ℕ) → i < j → j < len → (slot_at slots i).0 ≢ (slot_at slots j).0

-- a frame of none of the first slots is not pinned
pub absent : (slots : List (ℕ × ℕ)) (f n : ℕ) → ((i : ℕ) → i < n → (slot_at slots i).0 ≢ f) → pinned f (first_pins slots n) ≡ None
absent slots f zero other = refl
absent slots f (suc n) other =
    pinned_else (slot_at slots n).0 f (slot_at slots n).1 (first_pins slots n) (other n (omega arith)) ∙ absent slots f n (λ i few. other i (omega arith))

-- the frame of each of them is pinned with its piece
pub pinned_at : (slots : List (ℕ × ℕ)) (i n len : ℕ) → i < n → n ≤ len → Apart len slots → pinned (slot_at slots i).0 (first_pins slots n) ≡ Some (slot_at slots i).1
pinned_at slots i zero len few le apart = absurd (omega arith)
pinned_at slots i (suc n) len few le apart = dite (ℕ_discrete i n)
    (λ (e : i ≡ n). subst (λ (k : ℕ). pinned (slot_at slots k).0 (first_pins slots (suc n)) ≡ Some (slot_at slots k).1) (sym e) (pinned_here (slot_at slots n).0 (slot_at slots n).1 (first_pins slots n)))
    (λ (d : i ≢ n). let less : i < n = omega arith in
    pinned_else (slot_at slots n).0 (slot_at slots i).0 (slot_at slots n).1 (first_pins slots n) (λ e. apart i n less (omega arith) (sym e)) ∙ pinned_at slots i n len less (omega arith) apart)

-- after the last slot's unpin the pins of those before it are left
unpin_last : (slots : List (ℕ × ℕ)) (n len : ℕ) → n < len → Apart len slots → unpinned (slot_at slots n).0 (first_pins slots (suc n)) ≡ first_pins slots n
unpin_last slots n len few apart = unpinned_again (slot_at slots n).0 (slot_at slots n).1 (first_pins slots n) (absent slots (slot_at slots n).0 n (λ i less. apart i n less few))

pub released : (slots : List (ℕ × ℕ)) (p b : BerthView) (left len : ℕ) → b ≡ with_pins p (first_pins slots left) → 0 < left → left ≤ len → Apart len slots
    → unpins b (slot_at slots (left - 1)).0 ≡ with_pins p (first_pins slots (left - 1))
released slots p b zero len is some le apart = absurd (omega arith)
released slots p b (suc m) len is some le apart =
    let e : suc m - 1 ≡ m = omega arith in
    rw e (ap (λ (x : BerthView). unpins x (slot_at slots m).0) is ∙ ap (λ (l : List Pin). with_pins p l) (unpin_last slots m len (omega arith) apart))
