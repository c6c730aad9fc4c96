-- The order of one worker more.
use Rattle.std.proofs.Common.{◌≡◌, ◌∙◌, ◌<◌, ◌≤◌, ◌+◌, [], ◌++◌, ◌⊎◌, ℕ, List, append_assoc, inl, inr, length, take, drop, get_or, refl, sym, ap, subst, arith}
use Rattle.std.specs.Prelude.{Option}
use Rattle.std.proofs.Math.Nat.{eq-or-lt_of_le}
use Rattle.std.proofs.lemmas.List.{get_or-take, length-take-le, take-append-drop, take-take}
use Rattle.scan_story.specs.declared.entry.Entry.{Entry}
use Rattle.scan_story.specs.declared.entry.Entry.TheVariants.{Register}
use Rattle.scan_story.specs.declared.setting.Setting.{Setting}
use Rattle.scan_story.specs.Makers.{entries_by}
use Rattle.batch_ends.specs.Registering.{registered}
use Rattle.inspect_verdict.specs.Words.{AreInOrder, AreTurns, IsBrokenAt, IsInside, IsOrder, IsOrderBroken, LeavesDue, RegistersOther, both_turns, due_on, in_order}
use Rattle.inspect_verdict.specs.declared.order.Turns.{Turns}
use Rattle.inspect_verdict.specs.declared.order.Turns.TheVariants as turns
use Rattle.inspect_verdict.proofs.Turning.{on_worker}

-- what is left behind all entries is left behind the first of them, with more before it
pub cut_left : (es : List Entry) (m w : ℕ) (due left : List ℕ) → LeavesDue es w due left → (rest : List ℕ) × LeavesDue (take m es) w due rest
cut_left es m w due left so =
    let later = registered (entries_by w (drop m es)) in
    let split : registered (entries_by w es) ≡ registered (entries_by w (take m es)) ++ later =
    ap (λ (xs : List Entry). registered (entries_by w xs)) (sym (take-append-drop m es)) ∙ on_worker w (take m es) (drop m es) in
    (later ++ left, so ∙ (ap (λ (l : List ℕ). l ++ left) split ∙ append_assoc (registered (entries_by w (take m es))) later left))

pub cut_order : (s : Setting) (es : List Entry) (n m : ℕ) → AreInOrder s es n → AreInOrder s (take m es) n
cut_order s es n m so w lt = let k = so w lt in cut_left es m w (due_on s w) k.0 k.1

-- what holds of the first workers and of one more holds of all of these
one_more : (P : ℕ → Type 0) (n : ℕ) → ((w : ℕ) → w < n → P w) → P n → (w : ℕ) → w < n + 1 → P w
one_more P n before last w lt = either (eq-or-lt_of_le {n = w} {m = n} (omega (arith, lt)))
  where
    either : (w ≡ n) ⊎ (w < n) → P w
    either (inl same) = subst P (sym same) last
    either (inr below) = before w below

-- the first workers are in order over the entries that are in order
pub still : (s : Setting) (es : List Entry) (n : ℕ) (one : Turns) → IsOrder s es n one → AreInOrder s (in_order one es) n
still s es n turns.All is w lt = ([], is w lt)
still s es n turns.Some is w lt = is.0 w lt
still s es n (turns.Broken place due) is w lt = is.before w lt

pub inside : (s : Setting) (es : List Entry) (n : ℕ) (one : Turns) → IsOrder s es n one → IsInside one (length es)
inside s es n turns.All is = tt
inside s es n turns.Some is = tt
inside s es n (turns.Broken place due) is = is.there

-- entries before those that are out of order
pub in_both : (one : Turns) (es : List Entry) (p : ℕ) → IsInside one (length es) → p < length (in_order one es)
    → (p < length es) × (take p (in_order one es) ≡ take p es) × (get_or (in_order one es) p (Register 0 0) ≡ get_or es p (Register 0 0))
in_both turns.All es p there lt = (lt, refl, refl)
in_both turns.Some es p there lt = (lt, refl, refl)
in_both (turns.Broken place due) es p there lt =
    let len = length-take-le place es (omega (arith, there)) in
    let low : p < place = omega (arith, lt, len) in
    (omega (arith, low, there), take-take p place es (omega (arith, low)), get_or-take place es p (Register 0 0) low)

broken_more : (s : Setting) (es : List Entry) (n p : ℕ) (due : Option ℕ) (one : Turns) → n < s.workers → IsOrder s es n one → IsBrokenAt (in_order one es) n (due_on s n) p due → IsOrderBroken s es (n + 1) p due
broken_more s es n p due one few is broken =
    let k = in_both one es p (inside s es n one is) broken.there in
    let Order = λ (xs : List Entry). AreInOrder s xs n in
    let Leaves = λ (xs : List Entry). LeavesDue xs n (due_on s n) broken.left in
    let Others = λ (e : Entry). RegistersOther n broken.left e in
    let before = subst Leaves k.1 broken.before in
    record {
      there = k.0;
      before = one_more (λ (w : ℕ). (left : List ℕ) × LeavesDue (take p es) w (due_on s w) left) n (subst Order k.1 (cut_order s (in_order one es) n p (still s es n one is))) (broken.left, before);
      out = record { worker = n; there = few; left = broken.left; before = before; due_is = broken.next_is; other = subst Others k.2 broken.breaks };
    }

pub order_more : (s : Setting) (es : List Entry) (n : ℕ) (one other : Turns) → n < s.workers → IsOrder s es n one → AreTurns (in_order one es) n (due_on s n) other → IsOrder s es (n + 1) (both_turns one other)
order_more s es n one (turns.Broken p due) few is more = broken_more s es n p due one few is more
order_more s es n turns.All turns.All few is more = one_more (λ (w : ℕ). LeavesDue es w (due_on s w) []) n is more
order_more s es n turns.All turns.Some few is more =
    (one_more (λ (w : ℕ). (left : List ℕ) × LeavesDue es w (due_on s w) left) n (λ w lt. ([], is w lt)) (more.0, more.1), record { worker = n; there = few; left = more.0; leaves = more.1; some = more.2 })
order_more s es n turns.Some turns.All few is more = (one_more (λ (w : ℕ). (left : List ℕ) × LeavesDue es w (due_on s w) left) n is.0 ([], more), is.1)
order_more s es n turns.Some turns.Some few is more = (one_more (λ (w : ℕ). (left : List ℕ) × LeavesDue es w (due_on s w) left) n is.0 (more.0, more.1), is.1)
order_more s es n (turns.Broken place due) turns.All few is more = record { there = is.there; before = one_more (λ (w : ℕ). (left : List ℕ) × LeavesDue (take place es) w (due_on s w) left) n is.before ([], more); out = is.out }
order_more s es n (turns.Broken place due) turns.Some few is more = record { there = is.there; before = one_more (λ (w : ℕ). (left : List ℕ) × LeavesDue (take place es) w (due_on s w) left) n is.before (more.0, more.1); out = is.out }

-- what is out of order stands within the story
pub inside_more : (es : List Entry) (n : ℕ) (due : List ℕ) (one other : Turns) → IsInside one (length es) → AreTurns (in_order one es) n due other → IsInside (both_turns one other) (length es)
inside_more es n due one (turns.Broken p d) there more = (in_both one es p there more.there).0
inside_more es n due turns.All turns.All there more = tt
inside_more es n due turns.All turns.Some there more = tt
inside_more es n due turns.Some turns.All there more = tt
inside_more es n due turns.Some turns.Some there more = tt
inside_more es n due (turns.Broken p d) turns.All there more = there
inside_more es n due (turns.Broken p d) turns.Some there more = there

-- what is said of some workers is so of fewer
pub fewer : (s : Setting) (es : List Entry) (m n : ℕ) (one : Turns) → n ≤ m → IsOrder s es m one → IsOrder s es n one
fewer s es m n turns.All le is = λ w lt. is w (omega (arith, le, lt))
fewer s es m n turns.Some le is = (λ w lt. is.0 w (omega (arith, le, lt)), is.1)
fewer s es m n (turns.Broken place due) le is = record { there = is.there; before = λ w lt. is.before w (omega (arith, le, lt)); out = is.out }

-- what each call was given
pub turns_are : (w : ℕ) (given made due : List ℕ) (read story : List Entry) (t : Turns) → given ≡ made → made ≡ due → read ≡ story → AreTurns read w given t → AreTurns story w due t
turns_are w given made due read story t is made_is same are = subst (λ (xs : List Entry). AreTurns xs w due t) same (subst (λ (l : List ℕ). AreTurns read w l t) (is ∙ made_is) are)
