-- The best candidates are choices by relevance.
use Rattle.std.proofs.Common.{◌≡◌, ◌<◌, ◌≤◌, ◌+◌, ◌-◌, ◌^◌, min, ◌≤ℤ◌, ◌∷◌, [], ◌==◌, ◌&&◌, ◌||◌, not, ℕ, Bool, true, false, if◌then◌else◌, List, length, find, Option, None, Some, IfSome, is_none, is_some, nat_lt, refl, sym, ◌∙◌, ap, subst, arith, inl, inr}
use Rattle.std.specs.List.{list_any}
use Rattle.std.proofs.lemmas.Bool.{cases_Bool}
use Rattle.std.proofs.lemmas.Bool.Decides.{nat_tests}
use Rattle.std.proofs.Math.Nat.{min-eq_left}
use Rattle.scan_story.proofs.Counts.{below_all, below_within}
use Rattle.scan_story.specs.declared.setting.Need.{Need}
use Rattle.scan_story.specs.declared.setting.PolicyName.TheVariants.{Relevance}
use Rattle.scan_story.specs.declared.ratio.Ratio.{Ratio}
use Rattle.scan_story.specs.declared.setting.Setting.{Setting}
use Rattle.scan_story.specs.Counting.{has, count_among, any_below}
use Rattle.scan_story.specs.Setting.{IsSetting, need_of, chunks_in, asks_for, groups_read, piece_at, shares}
use Rattle.scan_story.specs.Views.{History, is_active, is_framed, is_stopped, is_ended, is_held, delivers, needs_chunk, is_wholly_framed}
use Rattle.scan_story.specs.Loads.{underway, is_load_of}
use Rattle.scan_story.specs.Numbers.{is_starved, cached, missing, missing_for, overlap}
use Rattle.scan_story.specs.Ratios.{query_rank, load_ratio, use_ratio, keep_ratio, IsAtMost}
use Rattle.scan_story.specs.MayFollow.{is_target, is_ready, is_trigger, is_victim, feeds_starved}
use Rattle.interest_book.specs.declared.book.Book.{Book}
use Rattle.interest_book.specs.Stands.{Stands}
use Rattle.chunk_interest.proofs.Below.{equal_number, true_false}
use Rattle.chunk_interest.proofs.Needs.{is_need, need_small}
use Rattle.chunk_interest.proofs.Kept.{keeps, active_registered, target_inside, victim_inside}
use Rattle.chunk_interest.proofs.Counting.{whole_is}
use Rattle.chunk_interest.proofs.Beginning.{some_groups}
use Rattle.interest_book.proofs.Inside.{ready_inside}
use Rattle.interest_book.proofs.Shown.{active_is}
use Rattle.relevance.specs.declared.best.BestChunk.{BestChunk}
use Rattle.relevance.specs.declared.best.BestQuery.{BestQuery}
use Rattle.relevance.specs.Best.{best_below, chunk_with, ratio_of, query_with, rank_of, greatest_below, least_below, highest_below, may_exceed, is_least, is_greater, is_less, is_higher, chunk_in, query_in, IsFirstBest}
use Rattle.interest_book.specs.Picks.{PicksQuery, PicksLoad, PicksDelivery, PicksVictim, HasActive}
use Rattle.relevance.proofs.Choosing.{IsOrder, IsBestBelow, best_is, first_of, greater_order, less_order, rank_order, no_more, no_less, settled}

-- Candidates are within their bounds

pub active_small : (b : Book) (q : ℕ) → HasActive b q → q ≤ 256
active_small b q a = (need_small a.setting q a.stands.setting ((keeps a.setting a.history a.stands.setting a.stands.followed).registered q (active_registered a.history q a.active))).1

trigger_inside : (s : Setting) (h : History) (q : ℕ) → IsSetting s → is_trigger s h q ≡ true → q < 257
trigger_inside s h q ok e =
    let most = (need_small s q ok (front (is_some (need_of s q)) (is_none (underway s h)) (is_starved s h q) (any_below (is_target s h q) s.chunks) e)).1 in
    omega (arith, most)
  where
    front : (a b d f : Bool) → (a && b && d && f) ≡ true → a ≡ true
    front true b d f e = refl
    front false b d f e = absurd (true_false false e refl)

none_of : (test : ℕ → Bool) (n : ℕ) → ((y : ℕ) → test y ≡ true → y < n) → ((y : ℕ) → y < n → test y ≡ false) → (y : ℕ) → test y ≡ false
none_of test n bound none y = elim (cases_Bool (test y)) [
  | inl so ↦ none y (bound y so)
  | inr not ↦ not
]

-- Ratios are over a number above 0

positive : (n : ℕ) → (n == 0) ≡ false → 0 < n
positive n e = grind (arith, nat_tests)

above : (n : ℕ) → nat_lt 0 n ≡ true → 0 < n
above n e = grind (arith, nat_tests)

pub target_misses : (s : Setting) (h : History) (q c : ℕ) → is_target s h q c ≡ true → 0 < missing_for s h q c
target_misses s h q c e = positive (missing_for s h q c) (sym (whole_is s h q c) ∙ last_not (nat_lt c s.chunks) (needs_chunk s h q c) (is_wholly_framed s h q c) e)
  where
    last_not : (a b d : Bool) → (a && b && not d) ≡ true → d ≡ false
    last_not a b false e = refl
    last_not true true true e = absurd (true_false false e refl)
    last_not true false true e = absurd (true_false false e refl)
    last_not false b true e = absurd (true_false false e refl)

victim_cached : (s : Setting) (h : History) (c : ℕ) → is_victim s h c ≡ true → 0 < cached s h c
victim_cached s h c e = above (cached s h c) (second (nat_lt c s.chunks) (nat_lt 0 (cached s h c)) (not (is_load_of c (underway s h))) (not (is_held s h c)) (not (feeds_starved s h c)) e)
  where
    second : (a b d f g : Bool) → (a && b && d && f && g) ≡ true → b ≡ true
    second a true d f g e = refl
    second true false d f g e = absurd (true_false false e refl)
    second false false d f g e = absurd (true_false false e refl)

-- the query itself is one that overlaps
counted : (t : ℕ → Bool) (q : ℕ) (ns : List Need) (n : Need) → find (λ n. n.query == q) ns ≡ Some n → n.query ≡ q → t q ≡ true → 0 < count_among (λ n. t n.query) ns
counted t q [] n e at passes = absurd cc
counted t q (m ∷ ns) n e at passes = at_head (m.query == q) refl (λ f. counted t q ns n f at passes) e
  where
    more : (b : Bool) (k : ℕ) → b ≡ true → 0 < (if b then k + 1 else k)
    more true k e = omega arith
    more false k e = absurd (true_false false e refl)

    most : (b : Bool) (k : ℕ) → 0 < k → 0 < (if b then k + 1 else k)
    most true k lt = omega arith
    most false k lt = lt

    same_number : (a b : ℕ) → (a == b) ≡ true → a ≡ b
    same_number a b e = grind (arith, nat_tests)

    at_head : (b : Bool) → (m.query == q) ≡ b → (find (λ n. n.query == q) ns ≡ Some n → 0 < count_among (λ n. t n.query) ns) → (if b then Some m else find (λ n. n.query == q) ns) ≡ Some n
        → 0 < (if t m.query then count_among (λ n. t n.query) ns + 1 else count_among (λ n. t n.query) ns)
    at_head true is rest e = more (t m.query) (count_among (λ n. t n.query) ns) (ap t (same_number m.query q is) ∙ passes)
    at_head false is rest e = most (t m.query) (count_among (λ n. t n.query) ns) (rest e)

first_shared : (gs : List ℕ) → 0 < length gs → list_any (λ g. has gs g) gs ≡ true
first_shared [] some = absurd (omega (arith, some))
first_shared (g ∷ gs) some = or_first (has (g ∷ gs) g) (list_any (λ x. has (g ∷ gs) x) gs) (ap (λ (b : Bool). b || has gs g) (equal_number g g refl))
  where
    or_first : (a b : Bool) → a ≡ true → (a || b) ≡ true
    or_first true b e = refl
    or_first false b e = absurd (true_false false e refl)

overlaps_itself : (s : Setting) (h : History) (q c : ℕ) (o : Option Need) → IsSetting s → need_of s q ≡ o → is_active h q ≡ true → needs_chunk s h q c ≡ true → 0 < overlap s h q c
overlaps_itself s h q c None ok e active needs = absurd (true_false (asks_for s q c) (first (asks_for s q c) (is_stopped h q) (is_ended h q) (list_any (delivers q c) h) needs) (ap (λ (x : Option Need). has (chunks_in x) c) e))
  where
    first : (a b d f : Bool) → (a && not b && not d && not f) ≡ true → a ≡ true
    first true b d f e = refl
    first false b d f e = absurd (true_false false e refl)
overlaps_itself s h q c (Some n) ok e active needs =
    let i = is_need s q n ok e in
    counted (λ r. is_active h r && needs_chunk s h r c && shares s q r) q s.needs n e i.1
    (all_three (is_active h q) (needs_chunk s h q c) (shares s q q) active needs (first_shared (groups_read s q) (some_groups s n (need_of s q) e i.0)))
  where
    all_three : (a b d : Bool) → a ≡ true → b ≡ true → d ≡ true → (a && b && d) ≡ true
    all_three a b d ea eb ed = rw (ea, eb, ed) refl

ready_overlaps : (s : Setting) (h : History) (q c : ℕ) → IsSetting s → is_active h q ≡ true → is_ready s h q c ≡ true → 0 < overlap s h q c
ready_overlaps s h q c ok active e = overlaps_itself s h q c (need_of s q) ok refl active (middle (nat_lt c s.chunks) (needs_chunk s h q c) (is_wholly_framed s h q c) e)
  where
    middle : (a b d : Bool) → (a && (b && d)) ≡ true → b ≡ true
    middle a true d e = refl
    middle true false d e = absurd (true_false false e refl)
    middle false false d e = absurd (true_false false e refl)

-- what one history says of a query that is active, each says that the book stands for
still_active : (b : Book) (s : Setting) (h : History) (q : ℕ) → HasActive b q → Stands b s h → is_active h q ≡ true
still_active b s h q a st = let small = active_small b q a in sym (active_is b s h q st small) ∙ (active_is b a.setting a.history q a.stands small ∙ a.active)

-- Picks

pub picks_query : (s : Setting) (h : History) (cursor : List ℕ) (best : Option BestQuery) (r : Option ℕ) → IsSetting s → best ≡ highest_below (is_trigger s h) (query_rank s h) 257 → r ≡ query_in best → PicksQuery Relevance cursor s h r
picks_query s h cursor best r ok is e =
    subst (PicksQuery Relevance cursor s h) (sym (e ∙ ap query_in is))
    (from (highest_below (is_trigger s h) (query_rank s h) 257) (best_is query_with (λ b. b.query) rank_of (λ x k. refl) (λ x k. refl) is_higher (λ a b. a ≤ℤ b) (is_trigger s h) (query_rank s h) (rank_order (is_trigger s h) (query_rank s h)) 257))
  where
    from : (o : Option BestQuery) → IsBestBelow (λ b. b.query) rank_of is_higher (λ a b. a ≤ℤ b) (is_trigger s h) (query_rank s h) 257 o → PicksQuery Relevance cursor s h (query_in o)
    from None none = none_of (is_trigger s h) 257 (λ y t. trigger_inside s h y ok t) none
    from (Some b) found = record { candidate = found.0; best = λ y t. found.2 y (trigger_inside s h y ok t) t }

pub picks_load : (s : Setting) (h : History) (q : ℕ) (cursor : List ℕ) (n : ℕ) (best : Option BestChunk) (r : Option ℕ) → n ≡ s.chunks → best ≡ greatest_below (is_target s h q) (load_ratio s h q) n → r ≡ chunk_in best
    → PicksLoad Relevance cursor s h q r
picks_load s h q cursor n best r all is e =
    subst (PicksLoad Relevance cursor s h q) (sym (e ∙ (ap chunk_in is ∙ ap (λ (k : ℕ). chunk_in (greatest_below (is_target s h q) (load_ratio s h q) k)) all)))
    (from (greatest_below (is_target s h q) (load_ratio s h q) s.chunks) (best_is chunk_with (λ b. b.chunk) ratio_of (λ x k. refl) (λ x k. refl) is_greater IsAtMost (is_target s h q) (load_ratio s h q) (greater_order (is_target s h q) (load_ratio s h q) (λ y t. target_misses s h q y t)) s.chunks))
  where
    from : (o : Option BestChunk) → IsBestBelow (λ b. b.chunk) ratio_of is_greater IsAtMost (is_target s h q) (load_ratio s h q) s.chunks o → PicksLoad Relevance cursor s h q (chunk_in o)
    from None none = none_of (is_target s h q) s.chunks (λ y t. target_inside s h q y t) none
    from (Some b) found = record { candidate = found.0; best = λ y t. found.2 y (target_inside s h q y t) t }

pub picks_delivery : (b : Book) (s : Setting) (h : History) (q : ℕ) (cursor : List ℕ) (n : ℕ) (best : Option BestChunk) (r : Option ℕ) → HasActive b q → Stands b s h → n ≡ s.chunks
    → best ≡ greatest_below (is_ready s h q) (use_ratio s h q) n → r ≡ chunk_in best → PicksDelivery Relevance cursor s h q r
picks_delivery b s h q cursor n best r a st all is e =
    subst (PicksDelivery Relevance cursor s h q) (sym (e ∙ (ap chunk_in is ∙ ap (λ (k : ℕ). chunk_in (greatest_below (is_ready s h q) (use_ratio s h q) k)) all)))
    (from (greatest_below (is_ready s h q) (use_ratio s h q) s.chunks) (best_is chunk_with (λ b. b.chunk) ratio_of (λ x k. refl) (λ x k. refl) is_greater IsAtMost (is_ready s h q) (use_ratio s h q)
    (greater_order (is_ready s h q) (use_ratio s h q) (λ y t. ready_overlaps s h q y st.setting (still_active b s h q a st) t)) s.chunks))
  where
    from : (o : Option BestChunk) → IsBestBelow (λ b. b.chunk) ratio_of is_greater IsAtMost (is_ready s h q) (use_ratio s h q) s.chunks o → PicksDelivery Relevance cursor s h q (chunk_in o)
    from None none = none_of (is_ready s h q) s.chunks (λ y t. ready_inside s h q y t) none
    from (Some b) found = record { candidate = found.0; best = λ y t. found.2 y (ready_inside s h q y t) t }

pub picks_victim : (s : Setting) (h : History) (cursor : List ℕ) (n : ℕ) (best : Option BestChunk) (r : Option ℕ) → n ≡ s.chunks → best ≡ least_below (is_victim s h) (keep_ratio s h) n → r ≡ chunk_in best → PicksVictim Relevance cursor s h r
picks_victim s h cursor n best r all is e =
    subst (PicksVictim Relevance cursor s h) (sym (e ∙ (ap chunk_in is ∙ ap (λ (k : ℕ). chunk_in (least_below (is_victim s h) (keep_ratio s h) k)) all)))
    (from (least_below (is_victim s h) (keep_ratio s h) s.chunks) (best_is chunk_with (λ b. b.chunk) ratio_of (λ x k. refl) (λ x k. refl) is_less (λ a b. IsAtMost b a) (is_victim s h) (keep_ratio s h) (less_order (is_victim s h) (keep_ratio s h) (λ y t. victim_cached s h y t)) s.chunks))
  where
    from : (o : Option BestChunk) → IsBestBelow (λ b. b.chunk) ratio_of is_less (λ a b. IsAtMost b a) (is_victim s h) (keep_ratio s h) s.chunks o → PicksVictim Relevance cursor s h (chunk_in o)
    from None none = none_of (is_victim s h) s.chunks (λ y t. victim_inside s h y t) none
    from (Some b) found = record { candidate = found.0; best = λ y t. found.2 y (victim_inside s h y t) t }

-- The first best

pub first_query : (s : Setting) (h : History) (best : Option BestQuery) (r : Option ℕ) → IsSetting s → best ≡ highest_below (is_trigger s h) (query_rank s h) 257 → r ≡ query_in best → IfSome r (IsFirstBest is_higher (is_trigger s h) (query_rank s h))
first_query s h best r ok is e =
    first_of query_with (λ b. b.query) query_in rank_of (record { numbered = λ x k. refl; keyed = λ x k. refl; none = refl; some = λ b. refl })
    is_higher (λ a b. a ≤ℤ b) (is_trigger s h) (query_rank s h) (rank_order (is_trigger s h) (query_rank s h)) 257 (λ y t. trigger_inside s h y ok t) best r is e

first_chunk : (beats : Ratio → Ratio → Bool) (AtMost : Ratio → Ratio → Type 0) (test : ℕ → Bool) (ratio : ℕ → Ratio) (n m : ℕ) (best : Option BestChunk) (r : Option ℕ) → IsOrder beats AtMost test ratio → ((y : ℕ) → test y ≡ true → y < n)
    → m ≡ n → best ≡ best_below chunk_with ratio_of beats test ratio m → r ≡ chunk_in best → IfSome r (IsFirstBest beats test ratio)
first_chunk beats AtMost test ratio n m best r order bound all is e =
    first_of chunk_with (λ b. b.chunk) chunk_in ratio_of (record { numbered = λ x k. refl; keyed = λ x k. refl; none = refl; some = λ b. refl })
    beats AtMost test ratio order n bound best r (is ∙ ap (λ (k : ℕ). best_below chunk_with ratio_of beats test ratio k) all) e

pub first_load : (s : Setting) (h : History) (q : ℕ) (n : ℕ) (best : Option BestChunk) (r : Option ℕ) → n ≡ s.chunks → best ≡ greatest_below (is_target s h q) (load_ratio s h q) n → r ≡ chunk_in best
    → IfSome r (IsFirstBest is_greater (is_target s h q) (load_ratio s h q))
first_load s h q n best r all is e =
    first_chunk is_greater IsAtMost (is_target s h q) (load_ratio s h q) s.chunks n best r (greater_order (is_target s h q) (load_ratio s h q) (λ y t. target_misses s h q y t)) (λ y t. target_inside s h q y t) all is e

pub first_delivery : (b : Book) (s : Setting) (h : History) (q : ℕ) (n : ℕ) (best : Option BestChunk) (r : Option ℕ) → HasActive b q → Stands b s h → n ≡ s.chunks → best ≡ greatest_below (is_ready s h q) (use_ratio s h q) n → r ≡ chunk_in best
    → IfSome r (IsFirstBest is_greater (is_ready s h q) (use_ratio s h q))
first_delivery b s h q n best r a st all is e =
    first_chunk is_greater IsAtMost (is_ready s h q) (use_ratio s h q) s.chunks n best r
    (greater_order (is_ready s h q) (use_ratio s h q) (λ y t. ready_overlaps s h q y st.setting (still_active b s h q a st) t)) (λ y t. ready_inside s h q y t) all is e

pub first_victim : (s : Setting) (h : History) (n : ℕ) (best : Option BestChunk) (r : Option ℕ) → n ≡ s.chunks → best ≡ least_below (is_victim s h) (keep_ratio s h) n → r ≡ chunk_in best → IfSome r (IsFirstBest is_less (is_victim s h) (keep_ratio s h))
first_victim s h n best r all is e =
    first_chunk is_less (λ a b. IsAtMost b a) (is_victim s h) (keep_ratio s h) s.chunks n best r (less_order (is_victim s h) (keep_ratio s h) (λ y t. victim_cached s h y t)) (λ y t. victim_inside s h y t) all is e

denied : (b : Bool) → not b ≡ true → b ≡ false
denied true e = absurd (true_false false e refl)
denied false e = refl

-- the best of the targets that were tried, where none is left or none may exceed it
pub load_settled : (q a most : ℕ) (targets : List ℕ) (s : Setting) (h : History) (may : Bool) (best : Option BestChunk) → ((c : ℕ) → has targets c ≡ is_target s h q c) → may ≡ may_exceed most best
    → (not may ≡ false → (c : ℕ) → a ≤ c → has targets c ≡ false) → ((c : ℕ) → (load_ratio s h q c).num ≤ most) → best ≡ greatest_below (is_target s h q) (load_ratio s h q) a
    → best ≡ greatest_below (is_target s h q) (load_ratio s h q) s.chunks
load_settled q a most targets s h may best are e none within is =
    settled chunk_with ratio_of is_greater (is_target s h q) (load_ratio s h q) a s.chunks (not may) best (λ on c from. sym (are c) ∙ none on c from) (λ c t. target_inside s h q c t)
    (λ over c t. no_more best c most (load_ratio s h q c) (target_misses s h q c t) (within c) (sym e ∙ denied may over)) is

-- the best of the ready chunks that were tried, where none is left or none may exceed it
pub delivery_settled : (b : Book) (q a most : ℕ) (ready : List ℕ) (s : Setting) (h : History) (may : Bool) (best : Option BestChunk) → HasActive b q → Stands b s h → ((c : ℕ) → has ready c ≡ is_ready s h q c) → may ≡ may_exceed most best
    → (not may ≡ false → (c : ℕ) → a ≤ c → has ready c ≡ false) → ((c : ℕ) → (use_ratio s h q c).num ≤ most) → best ≡ greatest_below (is_ready s h q) (use_ratio s h q) a
    → best ≡ greatest_below (is_ready s h q) (use_ratio s h q) s.chunks
delivery_settled b q a most ready s h may best active st are e none within is =
    settled chunk_with ratio_of is_greater (is_ready s h q) (use_ratio s h q) a s.chunks (not may) best (λ on c from. sym (are c) ∙ none on c from) (λ c t. ready_inside s h q c t)
    (λ over c t. no_more best c most (use_ratio s h q c) (ready_overlaps s h q c st.setting (still_active b s h q active st) t) (within c) (sym e ∙ denied may over)) is

-- no chunk has more pieces in frames than one has pieces
pub most_cached : (s : Setting) (h : History) (c in_frames in_none most : ℕ) → IsSetting s → in_frames ≡ cached s h 0 → in_none ≡ missing s h 0 → most ≡ min (in_frames + in_none) (2 ^ 32 - 1) → cached s h c ≤ most
most_cached s h c in_frames in_none most ok framed unframed is =
    let all = below_all (λ g. is_framed s h (piece_at s 0 g)) s.groups in
    let within = below_within (λ g. is_framed s h (piece_at s c g)) s.groups in
    let few = ok.groups.1 in
    let whole : in_frames + in_none ≡ s.groups = omega (arith, all, framed, unframed) in
    let at : most ≡ s.groups = is ∙ ap (λ (n : ℕ). min n (2 ^ 32 - 1)) whole ∙ min-eq_left (omega (arith, few)) in
    omega (arith, within, at)

-- the best of the victims that were tried, where none is left or none is less
pub victim_settled : (a : ℕ) (unheld : List ℕ) (s : Setting) (h : History) (over : Bool) (best : Option BestChunk) → ((c : ℕ) → has unheld c ≡ false → is_victim s h c ≡ false) → over ≡ is_least best → (over ≡ false → (c : ℕ) → a ≤ c → has unheld c ≡ false)
    → best ≡ least_below (is_victim s h) (keep_ratio s h) a → best ≡ least_below (is_victim s h) (keep_ratio s h) s.chunks
victim_settled a unheld s h over best are e none is =
    settled chunk_with ratio_of is_less (is_victim s h) (keep_ratio s h) a s.chunks over best (λ on c from. are c (none on c from)) (λ c t. victim_inside s h c t) (λ so c t. no_less best c (keep_ratio s h c) (sym e ∙ so)) is
