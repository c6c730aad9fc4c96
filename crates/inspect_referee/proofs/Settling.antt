-- Where the best of the candidates is no better than what was taken, none is.
use Rattle.std.proofs.Common.{◌≡◌, ◌<◌, ◌≤◌, ◌+◌, ◌-◌, ℕ, Bool, true, false, List, Option, None, Some, nat_lt, get_or, sym, ◌∙◌, ap, subst, arith, inl, inr}
use Rattle.std.proofs.lemmas.Bool.{cases_Bool, cases_eq, cases_lt}
use Rattle.std.proofs.lemmas.Bool.Decides.{nat_tests}
use Rattle.scan_story.specs.declared.setting.Setting.{Setting}
use Rattle.scan_story.specs.declared.setting.PolicyName.{PolicyName}
use Rattle.scan_story.specs.declared.setting.PolicyName.TheVariants.{Relevance, Elevator, Normal, Attach}
use Rattle.scan_story.specs.Views.{History}
use Rattle.scan_story.specs.Ratios.{load_ratio}
use Rattle.scan_story.specs.MayFollow.{is_ready, is_target}
use Rattle.scan_story.specs.Policies.{BestLoad, IsLeast, dist, dist_from, reach}
use Rattle.chunk_interest.proofs.Kept.{target_inside}
use Rattle.interest_book.proofs.Inside.{ready_inside}
use Rattle.interest_book.specs.Picks.{PicksLoad}
use Rattle.relevance.specs.Least.{PicksLeast}
use Rattle.relevance.proofs.Choosing.{greater_order}
use Rattle.relevance.proofs.Chosen.{target_misses}
use Rattle.relevance.proofs.Reaching.{least_found, least_none}
use Rattle.relevance.proofs.Rounds.{dist_small}
use Rattle.inspect_referee.specs.declared.rank.Rank.{Rank}
use Rattle.inspect_referee.specs.declared.rank.Rank.TheVariants.{Steps}
use Rattle.inspect_referee.specs.Ranks.{beats, load_rank}
use Rattle.inspect_referee.proofs.Nearing.{up}

steps_settled : (a b c : ℕ) → b ≤ a → nat_lt b c ≡ false → nat_lt a c ≡ false
steps_settled a b c le e = grind (arith, nat_tests)

pub load_settled : (name : PolicyName) (cursor : List ℕ) (s : Setting) (h : History) (q b c y : ℕ) → BestLoad name cursor s h q b → beats (load_rank name cursor s h q b) (load_rank name cursor s h q c) ≡ false → is_target s h q y ≡ true
    → beats (load_rank name cursor s h q y) (load_rank name cursor s h q c) ≡ false
load_settled Relevance cursor s h q b c y k e t =
    let order = greater_order (is_target s h q) (load_ratio s h q) (λ x t. target_misses s h q x t) in
    let most = order.through y b c k.candidate (k.best y t) (order.loses (load_ratio s h q b) (load_ratio s h q c) e) in
    elim (cases_Bool (beats (load_rank Relevance cursor s h q y) (load_rank Relevance cursor s h q c))) [
      | inl so ↦ absurd (order.strict (load_ratio s h q y) (load_ratio s h q c) so most)
      | inr not ↦ not
    ]
load_settled Elevator cursor s h q b c y k e t = steps_settled _ _ _ (k.best y t) e
load_settled Normal cursor s h q b c y k e t = steps_settled _ _ _ (k.best y t) e
load_settled Attach cursor s h q b c y k e t = steps_settled _ _ _ (k.best y t) e

pub best_target : (name : PolicyName) (cursor : List ℕ) (s : Setting) (h : History) (q b : ℕ) → BestLoad name cursor s h q b → is_target s h q b ≡ true
best_target Relevance cursor s h q b k = k.candidate
best_target Elevator cursor s h q b k = k.candidate
best_target Normal cursor s h q b k = k.candidate
best_target Attach cursor s h q b k = k.candidate

-- How far the elevator's nearest chunk is

pub reach_found : (s : Setting) (h : History) (cursor : List ℕ) (q start x : ℕ) → start ≡ get_or cursor 0 0 → IsLeast (is_target s h q) (dist_from s start) x → dist s cursor x ≡ reach s h cursor q
reach_found s h cursor q start x at picked =
    let k : IsLeast (is_target s h q) (dist s cursor) x = subst (λ (n : ℕ). IsLeast (is_target s h q) (dist_from s n) x) at picked in
    let small = target_inside s h q x k.candidate in
    let near = dist_small s (get_or cursor 0 0) x small in
    sym (least_found (is_target s h q) (dist s cursor) s.chunks s.chunks x small k.candidate (below (dist s cursor x) s.chunks near) k.best)
  where
    below : (a n : ℕ) → a < n → a ≤ n
    below a n lt = omega (arith, lt)

pub reach_none : (s : Setting) (h : History) (cursor : List ℕ) (q : ℕ) → ((y : ℕ) → is_target s h q y ≡ false) → s.chunks ≡ reach s h cursor q
reach_none s h cursor q none = sym (least_none (is_target s h q) (dist s cursor) s.chunks s.chunks none)

-- What normal loads

at_most : (a b x y : ℕ) → a ≡ x → b ≡ y → a ≤ b → x ≤ y
at_most a b x y e f le = omega (arith, e, f, le)

pub from_zero : (s : Setting) (x : ℕ) → x < s.chunks → dist_from s 0 x ≡ x
from_zero s x lt = up s.chunks 0 x (less x s.chunks lt) lt (none_off x) ∙ whole x
  where
    less : (x n : ℕ) → x < n → 0 < n
    less x n lt = omega (arith, lt)

    none_off : (x : ℕ) → 0 ≤ x
    none_off x = omega arith

    whole : (x : ℕ) → x - 0 ≡ x
    whole x = omega arith

pub normal_load : (cursor : List ℕ) (s : Setting) (h : History) (q : ℕ) (r : Option ℕ) → PicksLeast (is_target s h q) (dist_from s 0) r → PicksLoad Normal cursor s h q r
normal_load cursor s h q None picked = picked
normal_load cursor s h q (Some c) picked = record {
  candidate = picked.candidate;
  best = λ y t. at_most (dist_from s 0 c) (dist_from s 0 y) c y (from_zero s c (target_inside s h q c picked.candidate)) (from_zero s y (target_inside s h q y t)) (picked.best y t);
}

-- What is delivered by steps

as_steps : (a b : Rank) (m n : ℕ) → a ≡ Steps m → b ≡ Steps n → beats a b ≡ nat_lt m n
as_steps a b m n ea eb = ap (λ (x : Rank). beats x b) ea ∙ ap (beats (Steps m)) eb

pub ready_settled : (s : Setting) (h : History) (q start b c y : ℕ) (rank : ℕ → Rank) → ((x : ℕ) → x < s.chunks → rank x ≡ Steps (dist_from s start x)) → IsLeast (is_ready s h q) (dist_from s start) b → is_ready s h q c ≡ true
    → beats (rank b) (rank c) ≡ false → is_ready s h q y ≡ true → beats (rank y) (rank c) ≡ false
ready_settled s h q start b c y rank steps k there e t =
    let at_b = steps b (ready_inside s h q b k.candidate) in
    let at_c = steps c (ready_inside s h q c there) in
    let at_y = steps y (ready_inside s h q y t) in
    as_steps (rank y) (rank c) (dist_from s start y) (dist_from s start c) at_y at_c
    ∙ steps_settled (dist_from s start y) (dist_from s start b) (dist_from s start c) (k.best y t) (sym (as_steps (rank b) (rank c) (dist_from s start b) (dist_from s start c) at_b at_c) ∙ e)

pub normal_steps : (s : Setting) (y : ℕ) → y < s.chunks → Steps y ≡ Steps (dist_from s 0 y)
normal_steps s y lt = ap (λ (n : ℕ). Steps n) (sym (from_zero s y lt))

-- Going up a set

pub one_more : (P : ℕ → Type 0) (from y : ℕ) → ((k : ℕ) → k < from → P k) → ((k : ℕ) → from ≤ k → k < y → P k) → P y → (k : ℕ) → k < y + 1 → P k
one_more P from y before between here k lt = elim (cases_lt k from) [
  | inl low ↦ before k low
  | inr high ↦ elim (cases_eq k y) [
    | inl at ↦ subst P (sym at) here
    | inr other ↦ between k high (omega (arith, lt, other))
  ]
]

pub all_over : (P : ℕ → Type 0) (from : ℕ) → ((k : ℕ) → k < from → P k) → ((k : ℕ) → from ≤ k → P k) → (k : ℕ) → P k
all_over P from before beyond k = elim (cases_lt k from) [
  | inl low ↦ before k low
  | inr high ↦ beyond k high
]
