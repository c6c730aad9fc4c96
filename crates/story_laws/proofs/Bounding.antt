-- Loads are paid, whole histories load little, and no query that has ended is stopped.
use Rattle.std.proofs.Common.{◌≡◌, ◌≤◌, ◌+◌, ◌*◌, ◌∷◌, [], ◌==◌, ◌&&◌, ◌||◌, not, ℕ, Bool, true, false, if◌then◌else◌, List, Option, None, Some, nat_lt, min, refl, sym, ◌∙◌, ap, subst, arith}
use Rattle.std.specs.List.{AllByRecursion}
use Rattle.scan_story.specs.declared.entry.Entry.{Entry}
use Rattle.scan_story.specs.declared.entry.Entry.TheVariants.{Deliver, End, Evict, Failed, Fill, Filled, Plan, Register, Release, Stop}
use Rattle.scan_story.specs.declared.setting.Need.{Need}
use Rattle.scan_story.specs.declared.setting.Setting.{Setting}
use Rattle.scan_story.specs.declared.view.Load.{Load}
use Rattle.scan_story.specs.Counting.{count_among}
use Rattle.scan_story.specs.Legal.{Legal}
use Rattle.scan_story.specs.Loads.{underway}
use Rattle.scan_story.specs.MayFollow.{MayEnd, MayFail, MayStop}
use Rattle.scan_story.specs.Numbers.{available}
use Rattle.scan_story.specs.Setting.{AreDistinct}
use Rattle.scan_story.specs.Spent.{stopped_queries}
use Rattle.scan_story.specs.Views.{History, is_active, is_ended, is_registered, is_stopped}
use Rattle.story_laws.specs.Bounds.{LoadsArePaid, LostTriggersPayAhead, TriggersStayStarved, WholeLoadLittle, two_of_each}
use Rattle.story_laws.specs.Lists.{sum_among}
use Rattle.story_laws.specs.Queries.{EndedAreNotStopped}
use Rattle.story_laws.specs.Victims.{VictimsWereFar}
use Rattle.story_laws.proofs.Active.{active_parts}
use Rattle.story_laws.proofs.Bools.{both_and, either, if_not, is_below, not_both, or_off, other_number, same_number}
use Rattle.story_laws.proofs.Delivering.{few_deliveries}
use Rattle.story_laws.proofs.Grouped.{Grouped}
use Rattle.story_laws.proofs.Paid.{far_before, paid}
use Rattle.story_laws.proofs.Paying.{Paid, debt, debt_le, wealth}
use Rattle.story_laws.proofs.Sums.{none_step, sum_add, sum_twice}
use Rattle.story_laws.proofs.Tallies.{going, started}

wealth_is : (s : Setting) (h : History) → wealth s h ≡ 2 * stopped_queries s h + two_of_each s h
wealth_is s h =
    omega (
      arith,
      sum_add (λ n. if is_stopped h n.query then 2 else 0) (λ n. if is_active h n.query then min (available s h n.query) 2 else 0) s.needs,
      sum_twice (λ n. is_stopped h n.query) s.needs,
    )

debt_going : (h : History) (u : Option Load) → debt h u ≤ going u
debt_going h None = omega arith
debt_going h (Some l) = debt_le h (Some l)

pub loads_paid : (s : Setting) (h : History) → Paid s h → Legal s h → LoadsArePaid s h
loads_paid s h k legal = omega (arith, k.paid, started s h legal, debt_going h (underway s h), wealth_is s h)

pub paid_ahead : (s : Setting) (h : History) → Paid s h → Legal s h → LostTriggersPayAhead s h
paid_ahead s h k legal l u a =
    let none : debt h (underway s h) ≡ 0 = ap (debt h) u ∙ no_debt (is_active h l.query) a in
    let one : going (underway s h) ≡ 1 = ap going u in
    omega (arith, k.paid, started s h legal, none, one, wealth_is s h)
  where
    no_debt : (b : Bool) → b ≡ false → (if b then 1 else 0) ≡ (let z : ℕ = 0 in z)
    no_debt true e = absurd cc
    no_debt false e = refl

pub trigger_starved : (s : Setting) (h : History) → Paid s h → TriggersStayStarved s h
trigger_starved s h k l u a = both_and (is_active h l.query) (nat_lt (available s h l.query) 2) a (is_below (available s h l.query) 2 ((k.trigger l u).starved a))

-- Where none is stopped and each has ended, none is active

inactive : (r t e : Bool) → t ≡ false → (e || t) ≡ true → (r && not t && not e) ≡ false
inactive r t e f g = if_not (r && not t && not e) (λ a. (let p = active_parts r t e a in either e t g (λ i. not_both e i p.2) (λ i. not_both t i f)))

none_left : (s : Setting) (h : History) (ns : List Need) → AllByRecursion (λ (n : Need). (is_ended h n.query || is_stopped h n.query) ≡ true) ns → count_among (λ n. is_stopped h n.query) ns ≡ 0
    → sum_among (λ n. if is_active h n.query then min (available s h n.query) 2 else 0) ns ≡ 0
none_left s h [] each none = refl
none_left s h (n ∷ ns) each none =
    let o = none_step (is_stopped h n.query) (count_among (λ n. is_stopped h n.query) ns) none in
    let off = inactive (is_registered h n.query) (is_stopped h n.query) (is_ended h n.query) o.0 each.0 in
    omega (arith, none_left s h ns each.1 o.1, ap (λ (b : Bool). if b then min (available s h n.query) 2 else 0) off)

pub whole_loads_little : (s : Setting) (h : History) → Paid s h → Legal s h → WholeLoadLittle s h
whole_loads_little s h k legal whole none = omega (arith, loads_paid s h k legal, few_deliveries s h legal, none, none_left s h s.needs whole.finished none)

-- No query that has ended is stopped

ended_next : (s : Setting) (h : History) (e : Entry) → Paid s h → Legal s (e ∷ h) → EndedAreNotStopped s h → EndedAreNotStopped s (e ∷ h)
ended_next s h (End w r) p legal k q e =
    either (r == q) (is_ended h q) e
    (λ t. (let A : ℕ → Type 0 = λ x. is_stopped h x ≡ false in let may : MayEnd s h w r = legal.0 in
    subst A (same_number r q t) (active_parts (is_registered h r) (is_stopped h r) (is_ended h r) may.on.active).1)) (k q)
ended_next s h (Stop w r) p legal k q e =
    or_off (r == q) (is_stopped h q) (other_number r q (λ same. (let A : ℕ → Type 0 = λ x. is_ended h x ≡ true in let may : MayStop s h w r = legal.0 in
    not_both (is_ended h r) (subst A (sym same) e) (active_parts (is_registered h r) (is_stopped h r) (is_ended h r) may.on.active).2))) (k q e)
ended_next s h (Failed w r p why) paid legal k q e =
    or_off (r == q) (is_stopped h q) (other_number r q (λ same. (let A : ℕ → Type 0 = λ x. is_ended h x ≡ true in let may : MayFail s h w r p why = legal.0 in
    not_both (is_ended h may.load.query) (subst A (sym (may.for_query ∙ same)) e) (paid.trigger may.load may.is_load.underway).lasting))) (k q e)
ended_next s h (Register w r) p legal k q e = k q e
ended_next s h (Plan w r d) p legal k q e = k q e
ended_next s h (Evict w d) p legal k q e = k q e
ended_next s h (Fill w f x) p legal k q e = k q e
ended_next s h (Filled w f x) p legal k q e = k q e
ended_next s h (Deliver w r d) p legal k q e = k q e
ended_next s h (Release w r d) p legal k q e = k q e

pub ended_not_stopped : (s : Setting) (h : History) → Grouped s → AreDistinct s.needs → VictimsWereFar s h → Legal s h → EndedAreNotStopped s h
ended_not_stopped s [] g d far legal = λ q e. refl
ended_not_stopped s (e ∷ h) g d far legal = ended_next s h e (paid s h g d (far_before s h e far) legal.2) legal (ended_not_stopped s h g d (far_before s h e far) legal.2)
