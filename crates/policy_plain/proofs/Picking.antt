-- The picks by starts, waiting and fitness are choices of normal and of attach.
use Rattle.std.proofs.Common.{◌≡◌, ◌<◌, ◌≤◌, ◌+◌, ◌-◌, ◌%◌, ℕ, Bool, false, List, Option, None, Some, IfSome, nat_lt, ◌∙◌, ap, subst, arith}
use Rattle.std.proofs.lemmas.Bool.Decides.{nat_tests}
use Rattle.std.proofs.Math.Nat.{add-mod_right, mod-eq_of_lt, zero-mod}
use Rattle.scan_story.specs.declared.setting.PolicyName.TheVariants.{Normal, Attach}
use Rattle.scan_story.specs.declared.setting.Setting.{Setting}
use Rattle.scan_story.specs.Views.{History}
use Rattle.scan_story.specs.Numbers.{waiting, interested}
use Rattle.scan_story.specs.MayFollow.{is_target, is_ready, is_trigger}
use Rattle.scan_story.specs.Policies.{IsLeast, dist_from, start_of, place_in}
use Rattle.chunk_interest.proofs.Kept.{target_inside}
use Rattle.interest_book.proofs.Inside.{ready_inside}
use Rattle.relevance.specs.Best.{IsFirstBest}
use Rattle.relevance.specs.Rated.{is_below}
use Rattle.interest_book.specs.Picks.{PicksQuery, PicksLoad, PicksDelivery, PicksVictim}
use Rattle.relevance.specs.Least.{PicksLeast, PicksGreatest}
use Rattle.relevance.specs.Victims.{PicksFittest}

-- Attach

pub attach_query : (s : Setting) (h : History) (cursor : List ℕ) (r : Option ℕ) → PicksGreatest (is_trigger s h) (waiting s h) r → PicksQuery Attach cursor s h r
attach_query s h cursor None picked = picked
attach_query s h cursor (Some q) picked = picked

pub attach_load : (s : Setting) (h : History) (cursor : List ℕ) (q start : ℕ) (r : Option ℕ) → start ≡ start_of cursor q → PicksLeast (is_target s h q) (dist_from s start) r → PicksLoad Attach cursor s h q r
attach_load s h cursor q start None is picked = picked
attach_load s h cursor q start (Some c) is picked = subst (λ (x : ℕ). PicksLeast (is_target s h q) (dist_from s x) (Some c)) is picked

pub attach_delivery : (s : Setting) (h : History) (cursor : List ℕ) (q start : ℕ) (r : Option ℕ) → start ≡ start_of cursor q → PicksLeast (is_ready s h q) (dist_from s start) r → PicksDelivery Attach cursor s h q r
attach_delivery s h cursor q start None is picked = picked
attach_delivery s h cursor q start (Some c) is picked = subst (λ (x : ℕ). PicksLeast (is_ready s h q) (dist_from s x) (Some c)) is picked

pub attach_victim : (s : Setting) (h : History) (cursor : List ℕ) (r : Option ℕ) → PicksFittest s h (interested s h) r → PicksVictim Attach cursor s h r
attach_victim s h cursor None picked = picked
attach_victim s h cursor (Some c) picked = picked

-- Normal: from chunk 0 on the nearest is the least

pub normal_query : (s : Setting) (h : History) (cursor : List ℕ) (r : Option ℕ) → PicksGreatest (is_trigger s h) (waiting s h) r → PicksQuery Normal cursor s h r
normal_query s h cursor None picked = picked
normal_query s h cursor (Some q) picked = picked

from_zero : (s : Setting) (c : ℕ) → c < s.chunks → dist_from s 0 c ≡ c
from_zero s c small = ap (λ (k : ℕ). k % s.chunks) (off (0 % s.chunks) (zero-mod s.chunks)) ∙ (add-mod_right c s.chunks ∙ mod-eq_of_lt small)
  where
    off : (z : ℕ) → z ≡ 0 → c + s.chunks - z ≡ c + s.chunks
    off z none = omega (arith, none)

pub normal_load : (s : Setting) (h : History) (cursor : List ℕ) (q : ℕ) (r : Option ℕ) → PicksLeast (is_target s h q) (dist_from s 0) r → PicksLoad Normal cursor s h q r
normal_load s h cursor q None picked = picked
normal_load s h cursor q (Some c) picked = record {
  candidate = picked.candidate;
  best = λ y so. let a = from_zero s c (target_inside s h q c picked.candidate) in let b = from_zero s y (target_inside s h q y so) in let le = picked.best y so in omega (arith, a, b, le);
}

pub normal_delivery : (s : Setting) (h : History) (cursor : List ℕ) (q : ℕ) (r : Option ℕ) → PicksLeast (is_ready s h q) (dist_from s 0) r → PicksDelivery Normal cursor s h q r
normal_delivery s h cursor q None picked = picked
normal_delivery s h cursor q (Some c) picked = record {
  candidate = picked.candidate;
  best = λ y so. let a = from_zero s c (ready_inside s h q c picked.candidate) in let b = from_zero s y (ready_inside s h q y so) in let le = picked.best y so in omega (arith, a, b, le);
}

-- the least of those that pass is the first best by its number
least_first : (test : ℕ → Bool) (c : ℕ) → IsLeast test (λ x. x) c → IsFirstBest is_below test (λ x. x) c
least_first test c picked = record {
  candidate = picked.candidate;
  best = λ y so. not_less y c (picked.best y so);
  first = λ y lt so. absurd (let le = picked.best y so in omega (arith, lt, le));
}
  where
    not_less : (a b : ℕ) → b ≤ a → nat_lt a b ≡ false
    not_less a b le = grind (arith, nat_tests)

pub normal_load_first : (s : Setting) (h : History) (cursor : List ℕ) (q : ℕ) (r : Option ℕ) → PicksLoad Normal cursor s h q r → IfSome r (IsFirstBest is_below (is_target s h q) (λ x. x))
normal_load_first s h cursor q None picked = tt
normal_load_first s h cursor q (Some c) picked = least_first (is_target s h q) c picked

pub normal_delivery_first : (s : Setting) (h : History) (cursor : List ℕ) (q : ℕ) (r : Option ℕ) → PicksDelivery Normal cursor s h q r → IfSome r (IsFirstBest is_below (is_ready s h q) (λ x. x))
normal_delivery_first s h cursor q None picked = tt
normal_delivery_first s h cursor q (Some c) picked = least_first (is_ready s h q) c picked

pub normal_victim : (s : Setting) (h : History) (cursor : List ℕ) (r : Option ℕ) → PicksFittest s h (place_in cursor) r → PicksVictim Normal cursor s h r
normal_victim s h cursor None picked = picked
normal_victim s h cursor (Some c) picked = picked
