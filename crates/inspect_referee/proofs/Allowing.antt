-- An entry that keeps each rule of its kind may follow; and what a rule says of the load.
use Rattle.std.proofs.Common.{◌≡◌, ◌<◌, ◌≤◌, ◌+◌, ◌∷◌, [], ◌==◌, ◌&&◌, ℕ, Bool, true, false, List, Option, None, Some, is_none, length, refl, ap, ◌∙◌, arith}
use Rattle.std.proofs.lemmas.Bool.Decides.{nat_tests}
use Rattle.scan_story.specs.declared.entry.Why.{Why}
use Rattle.scan_story.specs.declared.entry.Why.TheVariants.{Fault, Damage}
use Rattle.scan_story.specs.declared.view.Hold.{Hold}
use Rattle.scan_story.specs.declared.view.Load.{Load}
use Rattle.scan_story.specs.declared.setting.Setting.{Setting}
use Rattle.scan_story.specs.Counting.{has, is_number}
use Rattle.scan_story.specs.Setting.{worker_of}
use Rattle.scan_story.specs.Views.{History, is_registered, is_active, held_by}
use Rattle.scan_story.specs.Loads.{underway, begins, begins_in, all_begun, is_load_by, is_free, free_frames}
use Rattle.scan_story.specs.Numbers.{needed, is_starved}
use Rattle.scan_story.specs.MayFollow.{IsIdle, IsActiveOn, IsReason, MayRegister, MayPlan, MayEvict, MayFill, MayFilled, MayFail, MayDeliver, MayStop, MayEnd, is_target, is_ready, is_victim}
use Rattle.chunk_interest.proofs.Below.{the_number_is, same_number}
use Rattle.inspect_referee.specs.Rules.{has_active, with_load, is_hold, is_reason}

none_is : {X : Type 0} (o : Option X) → is_none o ≡ true → o ≡ None
none_is None e = refl
none_is (Some x) e = absurd cc

empty : {X : Type 0} (xs : List X) → length xs ≡ 0 → xs ≡ []
empty [] e = refl
empty (x ∷ xs) e = absurd (omega (arith, e))

idle : (s : Setting) (h : History) (w : ℕ) → is_none (held_by h w) ≡ true → is_load_by w (underway s h) ≡ false → IsIdle s h w
idle s h w nothing quiet = record { holds_nothing = none_is (held_by h w) nothing; loads_nothing = quiet }

on : (s : Setting) (h : History) (q w : ℕ) → is_active h q ≡ true → is_number w (worker_of s q) ≡ true → IsActiveOn s h q w
on s h q w active its = record { active = active; on = the_number_is w (worker_of s q) its }

pub register_allowed : (s : Setting) (h : History) (w q : ℕ) → is_registered h q ≡ false → is_number w (worker_of s q) ≡ true → has_active s h w ≡ false
    → is_none (held_by h w) ≡ true → is_load_by w (underway s h) ≡ false → MayRegister s h w q
register_allowed s h w q first its alone nothing quiet = record { first = first; on = the_number_is w (worker_of s q) its; alone = alone; idle = idle s h w nothing quiet }

pub plan_allowed : (s : Setting) (h : History) (w q c : ℕ) → w < s.workers → is_none (underway s h) ≡ true → is_none (held_by h w) ≡ true → is_starved s h q ≡ true → is_target s h q c ≡ true → MayPlan s h w q c
plan_allowed s h w q c worker quiet nothing starved target = record { worker = worker; none_underway = none_is (underway s h) quiet; holds_nothing = none_is (held_by h w) nothing; starved = starved; target = target }

pub evict_allowed : (s : Setting) (h : History) (w c : ℕ) (l : Load) → underway s h ≡ Some l → l.worker ≡ w → length l.begun ≡ 0 → free_frames s h < length l.missing → is_victim s h c ≡ true → MayEvict s h w c
evict_allowed s h w c l is its none few victim = record { load = l; is_load = record { underway = is; by_worker = its }; none_begun = empty l.begun none; too_few = few; victim = victim }

pub fill_allowed : (s : Setting) (h : History) (w f p : ℕ) (l : Load) → underway s h ≡ Some l → l.worker ≡ w → length l.missing ≤ free_frames s h + length l.begun → f < s.frames
    → is_free s h f ≡ true → has l.missing p ≡ true → begins l p ≡ false → MayFill s h w f p
fill_allowed s h w f p l is its enough frame free piece not_begun =
    record { load = l; is_load = record { underway = is; by_worker = its }; enough = enough; frame = frame; free = free; piece = piece; not_begun = not_begun }

pub filled_allowed : (s : Setting) (h : History) (w f p : ℕ) (l : Load) → underway s h ≡ Some l → l.worker ≡ w → begins_in l f p ≡ true → has l.filled p ≡ false → all_begun l ≡ true → MayFilled s h w f p
filled_allowed s h w f p l is its begun not_filled all = record { load = l; is_load = record { underway = is; by_worker = its }; begun = begun; not_filled = not_filled; all_begun = all }

reason_is : (why : Why) → is_reason why ≡ true → IsReason why
reason_is (Fault b a) e = grind (arith, nat_tests)
reason_is (Damage i) e = tt

pub failed_allowed : (s : Setting) (h : History) (w q p : ℕ) (why : Why) (l : Load) → underway s h ≡ Some l → l.worker ≡ w → l.query ≡ q → begins l p ≡ true → has l.filled p ≡ false → all_begun l ≡ true
    → is_reason why ≡ true → MayFail s h w q p why
failed_allowed s h w q p why l is its for begun not_filled all reason =
    record { load = l; is_load = record { underway = is; by_worker = its }; for_query = for; begun = begun; not_filled = not_filled; all_begun = all; reason = reason_is why reason }

pub deliver_allowed : (s : Setting) (h : History) (w q c : ℕ) → is_active h q ≡ true → is_number w (worker_of s q) ≡ true → is_none (held_by h w) ≡ true → is_load_by w (underway s h) ≡ false → is_ready s h q c ≡ true → MayDeliver s h w q c
deliver_allowed s h w q c active its nothing quiet ready = record { on = on s h q w active its; idle = idle s h w nothing quiet; ready = ready }

pub release_allowed : (q c : ℕ) (o : Option Hold) → is_hold q c o ≡ true → o ≡ Some (record { query = q; chunk = c })
release_allowed q c None e = absurd cc
release_allowed q c (Some o) e = let p = both (o.query == q) (o.chunk == c) e in let x = same_number o.query q p.0 in let y = same_number o.chunk c p.1 in rw (← x, ← y) refl
  where
    both : (a b : Bool) → (a && b) ≡ true → (a ≡ true) × (b ≡ true)
    both true b e = (refl, e)
    both false b e = absurd cc

pub stop_allowed : (s : Setting) (h : History) (w q : ℕ) → is_active h q ≡ true → is_number w (worker_of s q) ≡ true → is_none (held_by h w) ≡ true → is_load_by w (underway s h) ≡ false → MayStop s h w q
stop_allowed s h w q active its nothing quiet = record { on = on s h q w active its; idle = idle s h w nothing quiet }

pub end_allowed : (s : Setting) (h : History) (w q : ℕ) → is_active h q ≡ true → is_number w (worker_of s q) ≡ true → is_none (held_by h w) ≡ true → is_load_by w (underway s h) ≡ false → (needed s h q == 0) ≡ true → MayEnd s h w q
end_allowed s h w q active its nothing quiet over = record { on = on s h q w active its; idle = idle s h w nothing quiet; needs_nothing = same_number (needed s h q) 0 over }

-- what a rule says of the load underway

pub load_lacks : (o : Option Load) (l : Load) (p : Load → Bool) → o ≡ Some l → p l ≡ false → with_load o p ≡ false
load_lacks o l p is e = ap (λ (k : Option Load). with_load k p) is ∙ e

pub none_by : (o : Option Load) (w : ℕ) → o ≡ None → is_load_by w o ≡ false
none_by o w is = ap (is_load_by w) is

pub other_by : (o : Option Load) (l : Load) (w : ℕ) → o ≡ Some l → (l.worker == w) ≡ false → is_load_by w o ≡ false
other_by o l w is e = ap (is_load_by w) is ∙ e
