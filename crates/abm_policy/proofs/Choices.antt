-- What a policy chooses is a candidate.
use Rattle.std.proofs.Common.{◌≡◌, ◌<◌, ◌≤◌, ◌∷◌, ◌&&◌, not, ℕ, Bool, true, false, List, Option, None, Some, is_some, is_none, nat_lt, refl, ◌∙◌, ap, subst, arith}
use Rattle.scan_story.specs.declared.entry.Entry.TheVariants.{Plan, Evict}
use Rattle.scan_story.specs.declared.setting.PolicyName.{PolicyName}
use Rattle.scan_story.specs.declared.setting.PolicyName.TheVariants.{Relevance, Elevator, Normal, Attach}
use Rattle.scan_story.specs.declared.setting.Setting.{Setting}
use Rattle.scan_story.specs.declared.view.Load.{Load}
use Rattle.scan_story.specs.Counting.{any_below}
use Rattle.scan_story.specs.Setting.{IsSetting, HasRoom, need_of, worker_of}
use Rattle.scan_story.specs.Views.{History, is_active, needs_chunk, is_wholly_framed, is_available}
use Rattle.scan_story.specs.Loads.{underway, free_frames}
use Rattle.scan_story.specs.Numbers.{available, is_starved, close}
use Rattle.scan_story.specs.MayFollow.{IsIdle, MayPlan, MayEvict, is_target, is_ready, is_trigger, is_victim}
use Rattle.scan_story.specs.Policies.{BestQuery, BestLoad, BestDelivery, BestVictim, is_least_close, after_load}
use Rattle.scan_story.specs.Legal.{Legal, Chosen, cursor_at}
use Rattle.story_laws.proofs.Bools.{and_both, below, not_both}
use Rattle.story_laws.proofs.Proper.{target_parts}
use Rattle.story_laws.proofs.Laws.{always_a_far_victim}
use Rattle.chunk_interest.proofs.Needs.{need_small, has_need, is_need}
use Rattle.abm_policy.specs.Loads.{IsUnbegun}

pub query_candidate : (name : PolicyName) (cursor : List ℕ) (s : Setting) (h : History) (q : ℕ) → BestQuery name cursor s h q → is_trigger s h q ≡ true
query_candidate Relevance cursor s h q best = best.candidate
query_candidate Elevator cursor s h q best = best.candidate
query_candidate Normal cursor s h q best = best.candidate
query_candidate Attach cursor s h q best = best.candidate

pub load_candidate : (name : PolicyName) (cursor : List ℕ) (s : Setting) (h : History) (q c : ℕ) → BestLoad name cursor s h q c → is_target s h q c ≡ true
load_candidate Relevance cursor s h q c best = best.candidate
load_candidate Elevator cursor s h q c best = best.candidate
load_candidate Normal cursor s h q c best = best.candidate
load_candidate Attach cursor s h q c best = best.candidate

pub delivery_candidate : (name : PolicyName) (cursor : List ℕ) (s : Setting) (h : History) (q c : ℕ) → BestDelivery name cursor s h q c → is_ready s h q c ≡ true
delivery_candidate Relevance cursor s h q c best = best.candidate
delivery_candidate Elevator cursor s h q c best = best.candidate
delivery_candidate Normal cursor s h q c best = best.candidate
delivery_candidate Attach cursor s h q c best = best.candidate

among_least : (s : Setting) (h : History) (c : ℕ) → is_least_close s h c ≡ true → is_victim s h c ≡ true
among_least s h c e = (and_both (is_victim s h c) (not (any_below (λ y. is_victim s h y && nat_lt (close s h y) (close s h c)) s.chunks)) e).0

pub victim_candidate : (name : PolicyName) (cursor : List ℕ) (s : Setting) (h : History) (c : ℕ) → BestVictim name cursor s h c → is_victim s h c ≡ true
victim_candidate Relevance cursor s h c best = best.candidate
victim_candidate Elevator cursor s h c best = among_least s h c best.candidate
victim_candidate Normal cursor s h c best = among_least s h c best.candidate
victim_candidate Attach cursor s h c best = among_least s h c best.candidate

-- Triggers and targets

pub record Trigger (s : Setting) (h : History) (q : ℕ) : Type 0 where
  pub known : is_some (need_of s q) ≡ true
  pub none_underway : underway s h ≡ None
  pub starved : is_starved s h q ≡ true
  pub some : any_below (is_target s h q) s.chunks ≡ true

no_load : (o : Option Load) → is_none o ≡ true → o ≡ None
no_load None e = refl
no_load (Some l) e = absurd cc

four : (a b c d : Bool) → (a && b && c && d) ≡ true → (a ≡ true) × (b ≡ true) × (c ≡ true) × (d ≡ true)
four true true true true e = (refl, refl, refl, refl)
four true true true false e = absurd cc
four true true false d e = absurd cc
four true false c d e = absurd cc
four false b c d e = absurd cc

pub trigger : (s : Setting) (h : History) (q : ℕ) → is_trigger s h q ≡ true → Trigger s h q
trigger s h q t =
    let p = four (is_some (need_of s q)) (is_none (underway s h)) (is_starved s h q) (any_below (is_target s h q) s.chunks) t in
    record { known = p.0; none_underway = no_load (underway s h) p.1; starved = p.2; some = p.3 }

pub trigger_active : (s : Setting) (h : History) (q : ℕ) → is_trigger s h q ≡ true → is_active h q ≡ true
trigger_active s h q t = (and_both (is_active h q) (nat_lt (available s h q) 2) (trigger s h q t).starved).0

pub trigger_small : (s : Setting) (h : History) (q : ℕ) → IsSetting s → is_trigger s h q ≡ true → q ≤ 256
trigger_small s h q ok t = (need_small s q ok (trigger s h q t).known).1

small : (s : Setting) (c : ℕ) → IsSetting s → nat_lt c s.chunks ≡ true → c < 1024
small s c ok t =
    let lt = below c s.chunks t in
    let few = ok.chunks in
    omega (arith, lt, few)

pub target_small : (s : Setting) (h : History) (q c : ℕ) → IsSetting s → is_target s h q c ≡ true → c < 1024
target_small s h q c ok t = small s c ok (target_parts (nat_lt c s.chunks) (needs_chunk s h q c) (is_wholly_framed s h q c) t).0

pub ready_small : (s : Setting) (h : History) (q c : ℕ) → IsSetting s → is_ready s h q c ≡ true → c < 1024
ready_small s h q c ok t = small s c ok (and_both (nat_lt c s.chunks) (is_available s h q c) t).0

pub worker_below : (s : Setting) (q w : ℕ) → IsSetting s → worker_of s q ≡ Some w → w < s.workers
worker_below s q w ok on =
    let n = has_need (need_of s q) w on in
    let below = (is_need s q n.0 ok n.1).0.worker in
    let same = n.2 in
    omega (arith, below, same)

pub is_known : (s : Setting) (q w : ℕ) → worker_of s q ≡ Some w → is_some (need_of s q) ≡ true
is_known s q w on = let n = has_need (need_of s q) w on in ap is_some n.1

-- Plans

pub may_plan : (name name' : PolicyName) (cursor cursor' : List ℕ) (s : Setting) (h : History) (w q c : ℕ) → w < s.workers → IsIdle s h w → BestQuery name cursor s h q → BestLoad name' cursor' s h q c → MayPlan s h w q c
may_plan name name' cursor cursor' s h w q c worker idle best best' =
    let t = trigger s h q (query_candidate name cursor s h q best) in
    record { worker = worker; none_underway = t.none_underway; holds_nothing = idle.holds_nothing; starved = t.starved; target = load_candidate name' cursor' s h q c best' }

pub plan_chosen : (name name' : PolicyName) (cursor cursor' : List ℕ) (s : Setting) (h : History) (w q c : ℕ) → name ≡ s.policy → cursor ≡ cursor_at s h → name' ≡ name → cursor' ≡ cursor
    → BestQuery name cursor s h q → BestLoad name' cursor' s h q c → Chosen s h (Plan w q c)
plan_chosen name name' cursor cursor' s h w q c en ec en' ec' best best' =
    let A : PolicyName → Type 0 = λ n. BestQuery n cursor s h q in
    let B : List ℕ → Type 0 = λ x. BestQuery s.policy x s h q in
    let C : PolicyName → Type 0 = λ n. BestLoad n cursor' s h q c in
    let D : List ℕ → Type 0 = λ x. BestLoad s.policy x s h q c in
    (subst B ec (subst A en best), subst D (ec' ∙ ec) (subst C (en' ∙ en) best'))

pub plan_cursor : (name name' : PolicyName) (cursor cursor' cursor'' : List ℕ) (s : Setting) (h : History) (w q c : ℕ) → name ≡ s.policy → cursor ≡ cursor_at s h → name' ≡ name → cursor' ≡ cursor
    → cursor'' ≡ after_load name' s cursor' q c → cursor'' ≡ cursor_at s (Plan w q c ∷ h)
plan_cursor name name' cursor cursor' cursor'' s h w q c en ec en' ec' ec'' =
    ec'' ∙ ap (λ n. after_load n s cursor' q c) (en' ∙ en) ∙ ap (λ x. after_load s.policy s x q c) (ec' ∙ ec)

-- Evictions

-- while frames are too few, there is a victim
pub never_none : (s : Setting) (h : History) (w need : ℕ) → IsSetting s → HasRoom s → Legal s h → IsUnbegun (underway s h) w need → free_frames s h < need → ((c : ℕ) → is_victim s h c ≡ false) → ⊥
never_none s h w need ok room legal unbegun few none =
    let count = unbegun.count in
    let far = always_a_far_victim s h ok room legal unbegun.load unbegun.is_load unbegun.none_begun (omega (arith, count, few)) in
    not_both (is_victim s h far.chunk) far.victim (none far.chunk)

pub may_evict : (name : PolicyName) (cursor : List ℕ) (s : Setting) (h : History) (w need c : ℕ) → IsUnbegun (underway s h) w need → free_frames s h < need → BestVictim name cursor s h c → MayEvict s h w c
may_evict name cursor s h w need c unbegun few best =
    let count = unbegun.count in
    record {
      load = unbegun.load;
      is_load = record { underway = unbegun.is_load; by_worker = unbegun.by_worker };
      none_begun = unbegun.none_begun;
      too_few = omega (arith, count, few);
      victim = victim_candidate name cursor s h c best;
    }

pub evict_chosen : (name : PolicyName) (cursor : List ℕ) (s : Setting) (h : History) (w c : ℕ) → name ≡ s.policy → cursor ≡ cursor_at s h → BestVictim name cursor s h c → Chosen s h (Evict w c)
evict_chosen name cursor s h w c en ec best =
    let A : PolicyName → Type 0 = λ n. BestVictim n cursor s h c in
    let B : List ℕ → Type 0 = λ x. BestVictim s.policy x s h c in subst B ec (subst A en best)
