-- Each policy has a choice wherever there is a candidate.
use Rattle.std.proofs.Common.{◌≡◌, ◌<◌, ◌≤◌, ◌+◌, ◌*◌, ◌==◌, ◌&&◌, ◌||◌, ◌≤ℤ◌, not, ℕ, Bool, true, false, if◌then◌else◌, List, length, Option, None, Some, is_none, is_some, nat_lt, refl, sym, ap, subst, arith, inl, inr, ◌∷◌, []}
use Rattle.std.proofs.Math.Nat.{mul-le-mul_right, le_of_mul-le-mul_right, mul_right_comm}
use Rattle.std.specs.List.{list_any}
use Rattle.scan_story.specs.declared.ratio.Ratio.{Ratio}
use Rattle.scan_story.specs.declared.setting.Need.{Need}
use Rattle.scan_story.specs.declared.setting.PolicyName.{PolicyName}
use Rattle.scan_story.specs.declared.setting.PolicyName.TheVariants.{Attach, Elevator, Normal, Relevance}
use Rattle.scan_story.specs.declared.setting.Setting.{Setting}
use Rattle.scan_story.specs.Counting.{any_below, count_among, has}
use Rattle.scan_story.specs.Loads.{missing_pieces, underway}
use Rattle.scan_story.specs.MayFollow.{is_ready, is_target, is_trigger, is_victim}
use Rattle.scan_story.specs.Numbers.{cached, close, interested, is_starved, missing_for, overlap, waiting}
use Rattle.scan_story.specs.Policies.{BestDelivery, BestLoad, BestQuery, BestVictim, dist, dist_from, is_least_close, place_in, reach, start_of}
use Rattle.scan_story.specs.Ratios.{IsAtMost, keep_ratio, load_ratio, query_rank, use_ratio}
use Rattle.scan_story.specs.Setting.{IsSetting, asks_for, columns_in, groups_read, need_of, shares}
use Rattle.scan_story.specs.Views.{History, delivers, is_active, is_ended, is_framed, is_stopped, is_wholly_framed, needs_chunk}
use Rattle.scan_story.specs.Setting.{pieces_read}
use Rattle.story_laws.proofs.Active.{listed}
use Rattle.story_laws.proofs.Bools.{and_both, below, both_and, if_not, not_both}
use Rattle.story_laws.proofs.Counts.{any_nowhere}
use Rattle.story_laws.proofs.Grouped.{asking_need, found_need}
use Rattle.story_laws.proofs.Lists.{here, some_at, some_left, some_length}
use Rattle.story_laws.proofs.Proper.{target_parts, victim}
use Rattle.story_laws.proofs.Sums.{found_query}
use Rattle.story_laws.proofs.Worth.{need_parts}
use Rattle.story_ends.proofs.Best.{IsRank, best_is, least_rank, most_rank, whole_rank}

-- Ratios

pub at_most_rank : (test : ℕ → Bool) (f : ℕ → Ratio) → ((y : ℕ) → test y ≡ true → 0 < (f y).den)
    → IsRank test (λ a b. IsAtMost (f a) (f b))
at_most_rank test f some = record {
  either = λ x y. (most_rank test (λ z. z)).either ((f x).num * (f y).den) ((f y).num * (f x).den);
  through = λ x y z t a b. through (f x) (f y) (f z) (some y t) a b;
}
  where
    through : (a b c : Ratio) → 0 < b.den → IsAtMost a b → IsAtMost b c → IsAtMost a c
    through a b c some ab bc =
        let left : a.num * b.den * c.den ≤ b.num * a.den * c.den = mul-le-mul_right c.den ab in
        let right : b.num * c.den * a.den ≤ c.num * b.den * a.den = mul-le-mul_right a.den bc in
        let one : a.num * b.den * c.den ≡ a.num * c.den * b.den = mul_right_comm a.num b.den c.den in
        let two : b.num * a.den * c.den ≡ b.num * c.den * a.den = mul_right_comm b.num a.den c.den in
        let three : c.num * b.den * a.den ≡ c.num * a.den * b.den = mul_right_comm c.num b.den a.den in
        let both : a.num * c.den * b.den ≤ c.num * a.den * b.den = omega (arith, left, right, one, two, three) in
        le_of_mul-le-mul_right both some

pub at_least_rank : (test : ℕ → Bool) (f : ℕ → Ratio) → ((y : ℕ) → test y ≡ true → 0 < (f y).den)
    → IsRank test (λ a b. IsAtMost (f b) (f a))
at_least_rank test f some =
    let k = at_most_rank test f some in
    record { either = λ x y. k.either y x; through = λ x y z t a b. k.through z y x t b a }

-- Triggers

known : (o : Option Need) → is_some o ≡ true → (n : Need) × (o ≡ Some n)
known None e = absurd cc
known (Some n) e = (n, refl)

trigger_small : (s : Setting) (h : History) (q : ℕ) → IsSetting s → is_trigger s h q ≡ true → q < 257
trigger_small s h q m e =
    let a =
    and_both (is_some (need_of s q) && is_none (underway s h) && is_starved s h q)
    (any_below (is_target s h q) s.chunks) e in
    let b = and_both (is_some (need_of s q) && is_none (underway s h)) (is_starved s h q) a.0 in
    let n = known (need_of s q) (and_both (is_some (need_of s q)) (is_none (underway s h)) b.0).0 in
    let i = (found_need s q n.0 s.needs m.needs n.1).query in
    omega (arith, i.1, found_query q n.0 s.needs n.1)

pub has_query : (name : PolicyName) (cursor : List ℕ) (s : Setting) (h : History) (q : ℕ) → IsSetting s
    → is_trigger s h q ≡ true → (x : ℕ) × BestQuery name cursor s h x
has_query Relevance cursor s h q m e =
    best_is (is_trigger s h) (λ a b. query_rank s h a ≤ℤ query_rank s h b) 257 q
    (whole_rank (is_trigger s h) (query_rank s h)) (λ y t. trigger_small s h y m t) e
has_query Elevator cursor s h q m e =
    best_is (is_trigger s h) (λ a b. reach s h cursor b ≤ reach s h cursor a) 257 q
    (least_rank (is_trigger s h) (reach s h cursor)) (λ y t. trigger_small s h y m t) e
has_query Normal cursor s h q m e =
    best_is (is_trigger s h) (λ a b. waiting s h a ≤ waiting s h b) 257 q (most_rank (is_trigger s h) (waiting s h))
    (λ y t. trigger_small s h y m t) e
has_query Attach cursor s h q m e =
    best_is (is_trigger s h) (λ a b. waiting s h a ≤ waiting s h b) 257 q (most_rank (is_trigger s h) (waiting s h))
    (λ y t. trigger_small s h y m t) e

-- Loads

target_below : (s : Setting) (h : History) (q c : ℕ) → is_target s h q c ≡ true → c < s.chunks
target_below s h q c e =
    below c s.chunks (target_parts (nat_lt c s.chunks) (needs_chunk s h q c) (is_wholly_framed s h q c) e).0

target_misses : (s : Setting) (h : History) (q c : ℕ) → is_target s h q c ≡ true → 0 < missing_for s h q c
target_misses s h q c e =
    some_length (λ p. true) (missing_pieces s h q c)
    (some_left (is_framed s h) (pieces_read s q c) (target_parts (nat_lt c s.chunks) (needs_chunk s h q c) (is_wholly_framed s h q c) e).2)

pub has_load : (name : PolicyName) (cursor : List ℕ) (s : Setting) (h : History) (q c : ℕ) → is_target s h q c ≡ true
    → (x : ℕ) × BestLoad name cursor s h q x
has_load Relevance cursor s h q c e =
    best_is (is_target s h q) (λ a b. IsAtMost (load_ratio s h q a) (load_ratio s h q b)) s.chunks c
    (at_most_rank (is_target s h q) (load_ratio s h q) (target_misses s h q)) (target_below s h q) e
has_load Elevator cursor s h q c e =
    best_is (is_target s h q) (λ a b. dist s cursor b ≤ dist s cursor a) s.chunks c
    (least_rank (is_target s h q) (dist s cursor)) (target_below s h q) e
has_load Normal cursor s h q c e =
    best_is (is_target s h q) (λ a b. b ≤ a) s.chunks c (least_rank (is_target s h q) (λ x. x)) (target_below s h q) e
has_load Attach cursor s h q c e =
    best_is (is_target s h q) (λ a b. dist_from s (start_of cursor q) b ≤ dist_from s (start_of cursor q) a) s.chunks c
    (least_rank (is_target s h q) (dist_from s (start_of cursor q))) (target_below s h q) e

-- Deliveries: the query itself is one that overlaps

ready_below : (s : Setting) (h : History) (q c : ℕ) → is_ready s h q c ≡ true → c < s.chunks
ready_below s h q c e =
    below c s.chunks (and_both (nat_lt c s.chunks) (needs_chunk s h q c && is_wholly_framed s h q c) e).0

some_counted : (t : Need → Bool) (ns : List Need) → list_any t ns ≡ true → 0 < count_among t ns
some_counted t [] e = absurd cc
some_counted t (n ∷ ns) e = step (t n) (some_counted t ns) e
  where
    step : (b : Bool) → (list_any t ns ≡ true → 0 < count_among t ns) → (b || list_any t ns) ≡ true
        → 0 < (if b then count_among t ns + 1 else count_among t ns)
    step true f e = omega arith
    step false f e = f e

some_groups : (s : Setting) (q : ℕ) (n : Need) → IsSetting s → need_of s q ≡ Some n → 0 < length (groups_read s q)
some_groups s q n m on = elim (s.groups == 1) as (λ b. (s.groups == 1) ≡ b → 0 < length (if b then 0 ∷ [] else columns_in (need_of s q))) [
  | true ↦ λ t. omega arith
  | false ↦ λ t. elim (found_need s q n s.needs m.needs on).columns [
    | inl one ↦ absurd (not_both (s.groups == 1) (ap (λ k. k == 1) one) t)
    | inr all ↦ subst (λ (x : Option Need). 0 < length (columns_in x)) (sym on) all.0
  ]
] refl

shares_itself : (gs : List ℕ) → 0 < length gs → list_any (λ g. has gs g) gs ≡ true
shares_itself [] some = absurd (omega (arith, some))
shares_itself (g ∷ gs) some = some_at (λ x. has (g ∷ gs) x) (g ∷ gs) g (here g (has gs g)) (here g (has gs g))

ready_overlaps : (s : Setting) (h : History) (q c : ℕ) → IsSetting s → is_active h q ≡ true → is_ready s h q c ≡ true
    → 0 < overlap s h q c
ready_overlaps s h q c m active e =
    let needs =
    (and_both (needs_chunk s h q c) (is_wholly_framed s h q c) (and_both (nat_lt c s.chunks) (needs_chunk s h q c && is_wholly_framed s h q c) e).1).0 in
    let n =
    asking_need (need_of s q) c
    (need_parts (asks_for s q c) (is_stopped h q) (is_ended h q) (list_any (delivers q c) h) needs).0 in
    let P : ℕ → Type 0 = λ x. (is_active h x && needs_chunk s h x c && shares s q x) ≡ true in
    let own : P q =
    both_and (is_active h q && needs_chunk s h q c) (shares s q q)
    (both_and (is_active h q) (needs_chunk s h q c) active needs)
    (shares_itself (groups_read s q) (some_groups s q n.0 m n.1)) in
    some_counted (λ k. is_active h k.query && needs_chunk s h k.query c && shares s q k.query) s.needs
    (listed q n.0 (λ k. is_active h k.query && needs_chunk s h k.query c && shares s q k.query) s.needs n.1 (subst P (sym (found_query q n.0 s.needs n.1)) own))

pub has_delivery : (name : PolicyName) (cursor : List ℕ) (s : Setting) (h : History) (q c : ℕ) → IsSetting s
    → is_active h q ≡ true → is_ready s h q c ≡ true → (x : ℕ) × BestDelivery name cursor s h q x
has_delivery Relevance cursor s h q c m a e =
    best_is (is_ready s h q) (λ a b. IsAtMost (use_ratio s h q a) (use_ratio s h q b)) s.chunks c
    (at_most_rank (is_ready s h q) (use_ratio s h q) (λ y t. ready_overlaps s h q y m a t)) (ready_below s h q) e
has_delivery Elevator cursor s h q c m a e =
    best_is (is_ready s h q) (λ a b. dist s cursor b ≤ dist s cursor a) s.chunks c
    (least_rank (is_ready s h q) (dist s cursor)) (ready_below s h q) e
has_delivery Normal cursor s h q c m a e =
    best_is (is_ready s h q) (λ a b. b ≤ a) s.chunks c (least_rank (is_ready s h q) (λ x. x)) (ready_below s h q) e
has_delivery Attach cursor s h q c m a e =
    best_is (is_ready s h q) (λ a b. dist_from s (start_of cursor q) b ≤ dist_from s (start_of cursor q) a) s.chunks c
    (least_rank (is_ready s h q) (dist_from s (start_of cursor q))) (ready_below s h q) e

-- Victims

least_close : (s : Setting) (h : History) (c : ℕ) → is_victim s h c ≡ true → (x : ℕ) × (is_least_close s h x ≡ true)
least_close s h c e =
    let b =
    best_is (is_victim s h) (λ a b. close s h b ≤ close s h a) s.chunks c (least_rank (is_victim s h) (close s h))
    (λ y t. (victim s h y t).chunk) e in
    let none : any_below (λ y. is_victim s h y && nat_lt (close s h y) (close s h b.0)) s.chunks ≡ false =
    any_nowhere (λ y. is_victim s h y && nat_lt (close s h y) (close s h b.0)) s.chunks
    (λ y lt. if_not (is_victim s h y && nat_lt (close s h y) (close s h b.0)) (λ t.
    (let o = and_both (is_victim s h y) (nat_lt (close s h y) (close s h b.0)) t in
    omega (arith, below (close s h y) (close s h b.0) o.1, b.1.best y o.0)))) in
    (b.0, both_and (is_victim s h b.0) (not (any_below (λ y. is_victim s h y && nat_lt (close s h y) (close s h b.0)) s.chunks)) b.1.candidate (ap not none))

least_is_victim : (s : Setting) (h : History) (c : ℕ) → is_least_close s h c ≡ true → is_victim s h c ≡ true
least_is_victim s h c e =
    (and_both (is_victim s h c) (not (any_below (λ y. is_victim s h y && nat_lt (close s h y) (close s h c)) s.chunks))
    e).0

least_close_below : (s : Setting) (h : History) (c : ℕ) → is_least_close s h c ≡ true → c < s.chunks
least_close_below s h c e =
    (victim s h c (least_is_victim s h c e)).chunk

pub has_victim : (name : PolicyName) (cursor : List ℕ) (s : Setting) (h : History) (c : ℕ) → is_victim s h c ≡ true
    → (x : ℕ) × BestVictim name cursor s h x
has_victim Relevance cursor s h c e =
    best_is (is_victim s h) (λ a b. IsAtMost (keep_ratio s h b) (keep_ratio s h a)) s.chunks c
    (at_least_rank (is_victim s h) (keep_ratio s h) (λ y t. below 0 (cached s h y) (victim s h y t).cached))
    (λ y t. (victim s h y t).chunk) e
has_victim Elevator cursor s h c e =
    let x = least_close s h c e in
    best_is (is_least_close s h) (λ a b. dist s cursor b ≤ dist s cursor a) s.chunks x.0
    (least_rank (is_least_close s h) (dist s cursor)) (least_close_below s h) x.1
has_victim Normal cursor s h c e =
    let x = least_close s h c e in
    best_is (is_least_close s h) (λ a b. place_in cursor b ≤ place_in cursor a) s.chunks x.0
    (least_rank (is_least_close s h) (place_in cursor)) (least_close_below s h) x.1
has_victim Attach cursor s h c e =
    let x = least_close s h c e in
    best_is (is_least_close s h) (λ a b. interested s h b ≤ interested s h a) s.chunks x.0
    (least_rank (is_least_close s h) (interested s h)) (least_close_below s h) x.1

pub is_victim_there : (s : Setting) (name : PolicyName) (cursor : List ℕ) (h : History) (c : ℕ)
    → BestVictim name cursor s h c → is_victim s h c ≡ true
is_victim_there s Relevance cursor h c b = b.candidate
is_victim_there s Elevator cursor h c b =
    least_is_victim s h c b.candidate
is_victim_there s Normal cursor h c b =
    least_is_victim s h c b.candidate
is_victim_there s Attach cursor h c b =
    least_is_victim s h c b.candidate

pub is_query_there : (s : Setting) (name : PolicyName) (cursor : List ℕ) (h : History) (q : ℕ)
    → BestQuery name cursor s h q → is_trigger s h q ≡ true
is_query_there s Relevance cursor h q b = b.candidate
is_query_there s Elevator cursor h q b = b.candidate
is_query_there s Normal cursor h q b = b.candidate
is_query_there s Attach cursor h q b = b.candidate

pub is_load_there : (s : Setting) (name : PolicyName) (cursor : List ℕ) (h : History) (q c : ℕ)
    → BestLoad name cursor s h q c → is_target s h q c ≡ true
is_load_there s Relevance cursor h q c b = b.candidate
is_load_there s Elevator cursor h q c b = b.candidate
is_load_there s Normal cursor h q c b = b.candidate
is_load_there s Attach cursor h q c b = b.candidate

pub is_delivery_there : (s : Setting) (name : PolicyName) (cursor : List ℕ) (h : History) (q c : ℕ)
    → BestDelivery name cursor s h q c → is_ready s h q c ≡ true
is_delivery_there s Relevance cursor h q c b = b.candidate
is_delivery_there s Elevator cursor h q c b = b.candidate
is_delivery_there s Normal cursor h q c b = b.candidate
is_delivery_there s Attach cursor h q c b = b.candidate
