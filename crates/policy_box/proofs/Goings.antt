-- Under elevator the loads go up and around.
use Rattle.std.proofs.Common.{◌≡◌, ◌<◌, ◌≤◌, ◌∷◌, [], ◌==◌, ◌&&◌, ◌||◌, not, ℕ, Bool, true, false, if◌then◌else◌, List, find, get_or, Option, None, Some, is_none, is_some, nat_lt, refl, ◌∙◌, ap, subst, arith, inl, inr}
use Rattle.std.specs.List.{list_any}
use Rattle.std.proofs.lemmas.Bool.{cases_Bool}
use Rattle.scan_story.specs.declared.entry.Entry.TheVariants.{Deliver, End, Evict, Failed, Fill, Filled, Plan, Register, Release, Stop}
use Rattle.scan_story.specs.declared.setting.Need.{Need}
use Rattle.scan_story.specs.declared.setting.PolicyName.{PolicyName}
use Rattle.scan_story.specs.declared.setting.PolicyName.TheVariants.{Elevator}
use Rattle.scan_story.specs.declared.setting.Setting.{Setting}
use Rattle.scan_story.specs.Counting.{any_below, has}
use Rattle.scan_story.specs.Legal.{Legal, cursor_at}
use Rattle.scan_story.specs.Loads.{underway}
use Rattle.scan_story.specs.MayFollow.{is_target, is_trigger}
use Rattle.scan_story.specs.Numbers.{is_starved}
use Rattle.scan_story.specs.Policies.{BestLoad, BestQuery, IsLeast, dist, reach}
use Rattle.scan_story.specs.Setting.{asks_for, chunks_in, need_of}
use Rattle.scan_story.specs.Views.{History, delivers, is_ended, is_stopped, is_wholly_framed, needs_chunk}
use Rattle.chunk_interest.proofs.Below.{any_at, same_number, true_false}
use Rattle.chunk_interest.proofs.Kept.{and_first, target_inside}
use Rattle.relevance.specs.Around.{chunk_at}
use Rattle.relevance.proofs.Reaching.{least_at_most, least_found}
use Rattle.relevance.proofs.Rounds.{chunk_is, dist_small, far_is}
use Rattle.policy_box.specs.Loads.{IsFirstFrom, LoadsWentAround, is_wanted}

and_second : (a b : Bool) → (a && b) ≡ true → b ≡ true
and_second true b e = e
and_second false b e = absurd (true_false false e refl)

-- a query with a chunk to load has a need
has_need : (s : Setting) (h : History) (r y : ℕ) → is_target s h r y ≡ true → is_some (need_of s r) ≡ true
has_need s h r y target = some (need_of s r) (first (asks_for s r y) (is_stopped h r) (is_ended h r) (list_any (delivers r y) h) (middle (nat_lt y s.chunks) (needs_chunk s h r y) (is_wholly_framed s h r y) target))
  where
    middle : (a b d : Bool) → (a && b && not d) ≡ true → b ≡ true
    middle true true d e = refl
    middle true false d e = absurd (true_false false e refl)
    middle false b d e = absurd (true_false false e refl)

    first : (a b d f : Bool) → (a && not b && not d && not f) ≡ true → a ≡ true
    first true b d f e = refl
    first false b d f e = absurd (true_false false e refl)

    some : (o : Option Need) → has (chunks_in o) y ≡ true → is_some o ≡ true
    some None e = absurd (true_false false e refl)
    some (Some n) e = refl

-- while no load is underway, a starved query with a chunk to load may trigger one
may_trigger : (s : Setting) (h : History) (r y : ℕ) → is_none (underway s h) ≡ true → is_starved s h r ≡ true → is_target s h r y ≡ true → is_trigger s h r ≡ true
may_trigger s h r y none starved target =
    all_four (is_some (need_of s r)) (is_none (underway s h)) (is_starved s h r) (any_below (is_target s h r) s.chunks) (has_need s h r y target) none starved (any_at (is_target s h r) s.chunks y (target_inside s h r y target) target)
  where
    all_four : (a b d f : Bool) → a ≡ true → b ≡ true → d ≡ true → f ≡ true → (a && b && d && f) ≡ true
    all_four a b d f ea eb ed ef = rw (ea, eb, ed, ef) refl

-- a query of the needs that passes, and one that is found among them

passing : (t : ℕ → Bool) (ns : List Need) (R : Type 0) → ((r : ℕ) → t r ≡ true → R) → list_any (λ n. t n.query) ns ≡ true → R
passing t [] R from e = absurd (true_false false e refl)
passing t (n ∷ ns) R from e = elim (cases_Bool (t n.query)) [
  | inl so ↦ from n.query so
  | inr not ↦ passing t ns R from (rw not at e)
]

listed : (t : ℕ → Bool) (q : ℕ) (ns : List Need) → is_some (find (λ n. n.query == q) ns) ≡ true → t q ≡ true → list_any (λ n. t n.query) ns ≡ true
listed t q [] found so = absurd (true_false false found refl)
listed t q (n ∷ ns) found so = at_head (n.query == q) refl found (λ there. listed t q ns there so)
  where
    or_first : (a b : Bool) → a ≡ true → (a || b) ≡ true
    or_first true b e = refl
    or_first false b e = absurd (true_false false e refl)

    or_second : (a b : Bool) → b ≡ true → (a || b) ≡ true
    or_second true b e = refl
    or_second false b e = e

    at_head : (b : Bool) → (n.query == q) ≡ b → is_some (if b then Some n else find (λ n. n.query == q) ns) ≡ true → (is_some (find (λ n. n.query == q) ns) ≡ true → list_any (λ n. t n.query) ns ≡ true) → (t n.query || list_any (λ n. t n.query) ns) ≡ true
    at_head true is there rest = or_first (t n.query) (list_any (λ n. t n.query) ns) (ap t (same_number n.query q is) ∙ so)
    at_head false is there rest = or_second (t n.query) (list_any (λ n. t n.query) ns) (rest there)

-- the nearest chunk of the query of least reach is at most as far as any chunk that a starved query needs and misses
nearest_of_all : (s : Setting) (h : History) (cursor : List ℕ) (q c r y : ℕ) → is_none (underway s h) ≡ true → IsLeast (is_trigger s h) (reach s h cursor) q → IsLeast (is_target s h q) (dist s cursor) c
    → is_starved s h r ≡ true → is_target s h r y ≡ true → dist s cursor c ≤ dist s cursor y
nearest_of_all s h cursor q c r y none trigger load starved target =
    let small = target_inside s h q c load.candidate in
    let near = dist_small s (get_or cursor 0 0) c small in
    let its = least_found (is_target s h q) (dist s cursor) s.chunks s.chunks c small load.candidate (omega (arith, near)) load.best in
    let less = trigger.best r (may_trigger s h r y none starved target) in
    let most = least_at_most (is_target s h r) (dist s cursor) s.chunks s.chunks y (target_inside s h r y target) target in
    omega (arith, its, less, most)

first_from : (s : Setting) (h : History) (cursor : List ℕ) (q c : ℕ) → is_none (underway s h) ≡ true → is_starved s h q ≡ true → IsLeast (is_trigger s h) (reach s h cursor) q → IsLeast (is_target s h q) (dist s cursor) c
    → IsFirstFrom s.chunks (get_or cursor 0 0) (is_wanted s h) c
first_from s h cursor q c none starved trigger load = record {
  far = dist s cursor c;
  within = near;
  there = chunk_is s start c small;
  passes = listed (wants c) q s.needs (has_need s h q c load.candidate) (both (is_starved s h q) (is_target s h q c) starved load.candidate);
  none_before = λ k lt. elim (cases_Bool (is_wanted s h (chunk_at s.chunks start k))) [
    | inl so ↦ absurd (passing (wants (chunk_at s.chunks start k)) s.needs ⊥ (λ r e. too_near k lt r e) so)
    | inr not ↦ not
  ];
}
  where
    start : ℕ
    start = get_or cursor 0 0

    small : c < s.chunks
    small = target_inside s h q c load.candidate

    near : dist s cursor c < s.chunks
    near = dist_small s start c small

    wants : ℕ → ℕ → Bool
    wants y r = is_starved s h r && is_target s h r y

    both : (a b : Bool) → a ≡ true → b ≡ true → (a && b) ≡ true
    both a b x y = rw (x, y) refl

    too_near : (k : ℕ) → k < dist s cursor c → (r : ℕ) → wants (chunk_at s.chunks start k) r ≡ true → ⊥
    too_near k lt r e =
        let y = chunk_at s.chunks start k in
        let most = nearest_of_all s h cursor q c r y none trigger load (and_first (is_starved s h r) (is_target s h r y) e) (and_second (is_starved s h r) (is_target s h r y) e) in
        let is = far_is s start k (omega (arith, lt, near)) in
        omega (arith, lt, most, is)

pub loads_go_around : (s : Setting) (h : History) → s.policy ≡ Elevator → Legal s h → LoadsWentAround s h
loads_go_around s [] by legal = tt
loads_go_around s (Plan w q c ∷ h) by legal =
    let chosen = subst (λ (p : PolicyName). BestQuery p (cursor_at s h) s h q × BestLoad p (cursor_at s h) s h q c) by legal.1 in
    (first_from s h (cursor_at s h) q c (ap is_none legal.0.none_underway) legal.0.starved chosen.0 chosen.1, loads_go_around s h by legal.2)
loads_go_around s (Register w q ∷ h) by legal = loads_go_around s h by legal.2
loads_go_around s (Evict w c ∷ h) by legal = loads_go_around s h by legal.2
loads_go_around s (Fill w f p ∷ h) by legal = loads_go_around s h by legal.2
loads_go_around s (Filled w f p ∷ h) by legal = loads_go_around s h by legal.2
loads_go_around s (Failed w q p why ∷ h) by legal = loads_go_around s h by legal.2
loads_go_around s (Deliver w q c ∷ h) by legal = loads_go_around s h by legal.2
loads_go_around s (Release w q c ∷ h) by legal = loads_go_around s h by legal.2
loads_go_around s (Stop w q ∷ h) by legal = loads_go_around s h by legal.2
loads_go_around s (End w q ∷ h) by legal = loads_go_around s h by legal.2
