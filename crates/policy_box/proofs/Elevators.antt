-- The nearest candidates are choices of elevator.
use Rattle.std.proofs.Common.{◌≡◌, ◌<◌, ◌+◌, ◌%◌, ◌∷◌, [], ◌==◌, ℕ, Bool, true, false, if◌then◌else◌, List, Option, None, Some, refl, sym, ◌∙◌, ap, arith}
use Rattle.std.proofs.lemmas.Bool.Decides.{nat_tests}
use Rattle.scan_story.specs.declared.setting.PolicyName.TheVariants.{Elevator}
use Rattle.scan_story.specs.declared.setting.Setting.{Setting}
use Rattle.scan_story.specs.Views.{History}
use Rattle.scan_story.specs.MayFollow.{is_target, is_ready, is_trigger}
use Rattle.scan_story.specs.Policies.{dist_from, reach}
use Rattle.chunk_interest.proofs.Below.{true_false}
use Rattle.chunk_interest.proofs.Kept.{target_inside}
use Rattle.interest_book.specs.Picks.{PicksQuery, PicksLoad, PicksDelivery, PicksVictim, cursor_after_load}
use Rattle.relevance.specs.Around.{far_from}
use Rattle.relevance.specs.Least.{PicksLeast}
use Rattle.relevance.specs.Victims.{PicksFittest}
use Rattle.relevance.proofs.Rounds.{dist_small, far_is_dist}
use Rattle.relevance.proofs.Reaching.{least_found, least_none}
use Rattle.policy_box.specs.Next.{next_of}

pub query_picked : (s : Setting) (h : History) (cursor : List ℕ) (r : Option ℕ) → PicksLeast (is_trigger s h) (reach s h cursor) r → PicksQuery Elevator cursor s h r
query_picked s h cursor None picked = picked
query_picked s h cursor (Some q) picked = picked

pub load_picked : (s : Setting) (h : History) (next q : ℕ) (r : Option ℕ) → PicksLeast (is_target s h q) (dist_from s next) r → PicksLoad Elevator (next ∷ []) s h q r
load_picked s h next q None picked = picked
load_picked s h next q (Some c) picked = picked

pub delivery_picked : (s : Setting) (h : History) (next q : ℕ) (r : Option ℕ) → PicksLeast (is_ready s h q) (dist_from s next) r → PicksDelivery Elevator (next ∷ []) s h q r
delivery_picked s h next q None picked = picked
delivery_picked s h next q (Some c) picked = picked

pub victim_picked : (s : Setting) (h : History) (next : ℕ) (r : Option ℕ) → PicksFittest s h (dist_from s next) r → PicksVictim Elevator (next ∷ []) s h r
victim_picked s h next None picked = picked
victim_picked s h next (Some c) picked = picked

-- the cursor after a load
pub cursor_moved : (s : Setting) (h : History) (cursor : List ℕ) (n q c : ℕ) → n ≡ s.chunks → is_target s h q c ≡ true → next_of n c ∷ [] ≡ cursor_after_load Elevator s cursor q (Some c)
cursor_moved s h cursor n q c all picked = ap (λ (k : ℕ). next_of k c ∷ []) all ∙ ap (λ (k : ℕ). k ∷ []) (some (s.chunks == 0) ((c + 1) % s.chunks) (not_none s.chunks (target_inside s h q c picked)))
  where
    not_none : (n : ℕ) → c < n → (n == 0) ≡ false
    not_none n lt = grind (arith, nat_tests, lt)

    some : (b : Bool) (x : ℕ) → b ≡ false → (if b then 0 else x) ≡ x
    some false x e = refl
    some true x e = absurd (true_false true refl e)

-- the reach of a query is how far its nearest chunk to load is
pub reach_is : (s : Setting) (h : History) (next q n c : ℕ) → n ≡ s.chunks → PicksLeast (is_target s h q) (dist_from s next) (Some c) → far_from n next c ≡ reach s h (next ∷ []) q
reach_is s h next q n c all picked =
    let small = target_inside s h q c picked.candidate in
    let near = dist_small s next c small in
    far_is_dist s n next c all small ∙ sym (least_found (is_target s h q) (dist_from s next) s.chunks s.chunks c small picked.candidate (omega (arith, near)) picked.best)

pub no_reach : (s : Setting) (h : History) (next q n : ℕ) → n ≡ s.chunks → PicksLeast (is_target s h q) (dist_from s next) None → n ≡ reach s h (next ∷ []) q
no_reach s h next q n all none = all ∙ sym (least_none (is_target s h q) (dist_from s next) s.chunks s.chunks none)
