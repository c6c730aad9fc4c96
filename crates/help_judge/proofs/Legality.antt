-- The tests of a next entry decide what the definitions say.
use Rattle.std.proofs.Common.{◌≡◌, ◌<◌, ◌≤◌, ◌≤ℤ◌, ◌+◌, ◌*◌, ◌∷◌, [], ◌==◌, ◌&&◌, not, ℕ, Bool, true, false, List, length, Option, None, Some, is_none, is_some, nat_lt, nat_le, ◌++◌, take, refl, sym, ◌∙◌, ap, subst, arith}
use Rattle.std.specs.List.{list_any}
use Rattle.std.proofs.lemmas.List.{take_all, reverse-append}
use Rattle.std.proofs.lemmas.Bool.Decides.{nat_tests}
use Rattle.scan_story.specs.declared.entry.Why.{Why}
use Rattle.scan_story.specs.declared.entry.Why.TheVariants.{Fault, Damage}
use Rattle.scan_story.specs.declared.view.Hold.{Hold}
use Rattle.scan_story.specs.declared.view.Load.{Load}
use Rattle.scan_story.specs.declared.setting.Setting.{Setting}
use Rattle.scan_story.specs.declared.setting.PolicyName.{PolicyName}
use Rattle.scan_story.specs.declared.setting.PolicyName.TheVariants.{Relevance, Elevator, Normal, Attach}
use Rattle.scan_story.specs.declared.entry.Entry.{Entry}
use Rattle.scan_story.specs.declared.entry.Entry.TheVariants.{Register, Plan, Evict, Fill, Filled, Failed, Deliver, Release, Stop, End}
use Rattle.scan_story.specs.Counting.{has, any_below, is_number}
use Rattle.scan_story.specs.Setting.{need_of, worker_of}
use Rattle.help_judge.specs.First.{IsFirstIllegal}
use Rattle.scan_story.specs.Views.{past, History, is_registered, is_active, needs_chunk, is_wholly_framed, is_available, held_by, is_held}
use Rattle.scan_story.specs.Loads.{underway, begins, begins_in, all_begun, is_load_by, is_load_of, is_free, free_frames}
use Rattle.scan_story.specs.Numbers.{needed, waiting, running, interested, close, cached, is_starved}
use Rattle.scan_story.specs.Ratios.{load_ratio, use_ratio, keep_ratio, query_rank, IsAtMost}
use Rattle.scan_story.specs.MayFollow.{Allowed, IsActiveOn, IsIdle, IsRise, IsReason, is_target, is_ready, is_trigger, is_victim, feeds_starved}
use Rattle.scan_story.specs.Policies.{IsBest, BestQuery, BestLoad, BestDelivery, BestVictim, dist_from, dist, reach, place_in, start_of, is_least_close}
use Rattle.scan_story.specs.Legal.{Chosen, Legal, cursor_at}
use Rattle.help_judge.specs.Tests.{is_idle, is_active_on, has_active, is_rise, is_reason, is_fresh, evicts_for, fills_for, filled_for, fails_for, with_load, is_hold, allows, query_at_most, load_at_most, delivery_at_most, victim_at_most, is_victim_of, is_best, is_best_query, is_best_load, chooses, follows, is_legal}
use Rattle.help_judge.proofs.Bools.{and2, and3, and4, and5, and6, all2, all3, all4, all5, all6, not_is, not_true, none_is, none_true, eqb_is, eqb_true, lt_is, lt_true, le_is, le_true, number_is, number_true, not_better, not_better_is}
use Rattle.help_judge.proofs.Best.{best_from, best_to, none_needs, needs_none, rank_is, rank_true}

-- Allowed

load_is : (o : Option Load) (p : Load → Bool) → with_load o p ≡ true → (l : Load) × (o ≡ Some l) × (p l ≡ true)
load_is None p e = absurd cc
load_is (Some l) p e = (l, refl, e)

load_true : (o : Option Load) (p : Load → Bool) (l : Load) → o ≡ Some l → p l ≡ true → with_load o p ≡ true
load_true o p l e t = ap (λ (k : Option Load). with_load k p) e ∙ t

idle_is : (s : Setting) (h : History) (w : ℕ) → is_idle s h w ≡ true → IsIdle s h w
idle_is s h w e = let p = and2 (is_none (held_by h w)) (not (is_load_by w (underway s h))) e in
    record { holds_nothing = none_is (held_by h w) p.0; loads_nothing = not_is (is_load_by w (underway s h)) p.1 }

idle_true : (s : Setting) (h : History) (w : ℕ) → IsIdle s h w → is_idle s h w ≡ true
idle_true s h w k = all2 (is_none (held_by h w)) (not (is_load_by w (underway s h))) (none_true (held_by h w) k.holds_nothing) (not_true (is_load_by w (underway s h)) k.loads_nothing)

on_is : (s : Setting) (h : History) (q w : ℕ) → is_active_on s h q w ≡ true → IsActiveOn s h q w
on_is s h q w e = let p = and2 (is_active h q) (is_number w (worker_of s q)) e in record { active = p.0; on = number_is w (worker_of s q) p.1 }

on_true : (s : Setting) (h : History) (q w : ℕ) → IsActiveOn s h q w → is_active_on s h q w ≡ true
on_true s h q w k = all2 (is_active h q) (is_number w (worker_of s q)) k.active (number_true w (worker_of s q) k.on)

hold_is : (q c : ℕ) (o : Option Hold) → is_hold q c o ≡ true → o ≡ Some (record { query = q; chunk = c })
hold_is q c None e = absurd cc
hold_is q c (Some o) e = let p = and2 (o.query == q) (o.chunk == c) e in let x = eqb_is o.query q p.0 in let y = eqb_is o.chunk c p.1 in rw (← x, ← y) refl

hold_true : (q c : ℕ) (o : Option Hold) → o ≡ Some (record { query = q; chunk = c }) → is_hold q c o ≡ true
hold_true q c o e = ap (is_hold q c) e ∙ all2 (q == q) (c == c) (eqb_true q q refl) (eqb_true c c refl)

pub rise_is : (b a : ℕ) → is_rise b a ≡ true → IsRise b a
rise_is b a e = grind (arith, nat_tests)

pub rise_true : (b a : ℕ) → IsRise b a → is_rise b a ≡ true
rise_true b a k = grind (arith, nat_tests)

reason_is : (why : Why) → is_reason why ≡ true → IsReason why
reason_is (Fault b a) e = rise_is b a e
reason_is (Damage i) e = tt

reason_true : (why : Why) → IsReason why → is_reason why ≡ true
reason_true (Fault b a) k = rise_true b a k
reason_true (Damage i) k = refl

none_begun_is : {X : Type 0} (xs : List X) → (length xs == 0) ≡ true → xs ≡ []
none_begun_is [] e = refl
none_begun_is (x ∷ xs) e = let z = eqb_is (length (x ∷ xs)) 0 e in absurd (omega (arith, z))

pub allows_is : (s : Setting) (h : History) (e : Entry) → allows s h e ≡ true → Allowed s h e
allows_is s h (Register w q) e =
    let p = and4 (not (is_registered h q)) (is_number w (worker_of s q)) (not (has_active s h w)) (is_idle s h w) e in
    record { first = not_is (is_registered h q) p.0; on = number_is w (worker_of s q) p.1; alone = not_is (has_active s h w) p.2; idle = idle_is s h w p.3 }
allows_is s h (Plan w q c) e =
    let p = and5 (nat_lt w s.workers) (is_none (underway s h)) (is_none (held_by h w)) (is_starved s h q) (is_target s h q c) e in
    record { worker = lt_is w s.workers p.0; none_underway = none_is (underway s h) p.1; holds_nothing = none_is (held_by h w) p.2; starved = p.3; target = p.4 }
allows_is s h (Evict w c) e =
    let p = and2 (with_load (underway s h) (evicts_for s h w)) (is_victim s h c) e in
    let l = load_is (underway s h) (evicts_for s h w) p.0 in
    let t = and3 (l.0.worker == w) (is_fresh l.0) (nat_lt (free_frames s h) (length l.0.missing)) l.2 in
    record { load = l.0; is_load = record { underway = l.1; by_worker = eqb_is l.0.worker w t.0 }; none_begun = none_begun_is l.0.begun t.1; too_few = lt_is (free_frames s h) (length l.0.missing) t.2; victim = p.1 }
allows_is s h (Fill w f p) e =
    let l = load_is (underway s h) (fills_for s h w f p) e in
    let t = and6 (l.0.worker == w) (nat_le (length l.0.missing) (free_frames s h + length l.0.begun)) (nat_lt f s.frames) (is_free s h f) (has l.0.missing p) (not (begins l.0 p)) l.2 in
    record { load = l.0; is_load = record { underway = l.1; by_worker = eqb_is l.0.worker w t.0 }; enough = le_is (length l.0.missing) (free_frames s h + length l.0.begun) t.1; frame = lt_is f s.frames t.2; free = t.3; piece = t.4; not_begun = not_is (begins l.0 p) t.5 }
allows_is s h (Filled w f p) e =
    let l = load_is (underway s h) (filled_for w f p) e in
    let t = and4 (l.0.worker == w) (begins_in l.0 f p) (not (has l.0.filled p)) (all_begun l.0) l.2 in
    record { load = l.0; is_load = record { underway = l.1; by_worker = eqb_is l.0.worker w t.0 }; begun = t.1; not_filled = not_is (has l.0.filled p) t.2; all_begun = t.3 }
allows_is s h (Failed w q p why) e =
    let l = load_is (underway s h) (fails_for w q p why) e in
    let t = and6 (l.0.worker == w) (l.0.query == q) (begins l.0 p) (not (has l.0.filled p)) (all_begun l.0) (is_reason why) l.2 in
    record { load = l.0; is_load = record { underway = l.1; by_worker = eqb_is l.0.worker w t.0 }; for_query = eqb_is l.0.query q t.1; begun = t.2; not_filled = not_is (has l.0.filled p) t.3; all_begun = t.4; reason = reason_is why t.5 }
allows_is s h (Deliver w q c) e =
    let p = and3 (is_active_on s h q w) (is_idle s h w) (is_ready s h q c) e in
    record { on = on_is s h q w p.0; idle = idle_is s h w p.1; ready = p.2 }
allows_is s h (Release w q c) e = hold_is q c (held_by h w) e
allows_is s h (Stop w q) e =
    let p = and2 (is_active_on s h q w) (is_idle s h w) e in record { on = on_is s h q w p.0; idle = idle_is s h w p.1 }
allows_is s h (End w q) e =
    let p = and3 (is_active_on s h q w) (is_idle s h w) (needed s h q == 0) e in
    record { on = on_is s h q w p.0; idle = idle_is s h w p.1; needs_nothing = eqb_is (needed s h q) 0 p.2 }

pub allows_true : (s : Setting) (h : History) (e : Entry) → Allowed s h e → allows s h e ≡ true
allows_true s h (Register w q) k =
    all4 (not (is_registered h q)) (is_number w (worker_of s q)) (not (has_active s h w)) (is_idle s h w)
    (not_true (is_registered h q) k.first) (number_true w (worker_of s q) k.on) (not_true (has_active s h w) k.alone) (idle_true s h w k.idle)
allows_true s h (Plan w q c) k =
    all5 (nat_lt w s.workers) (is_none (underway s h)) (is_none (held_by h w)) (is_starved s h q) (is_target s h q c)
    (lt_true w s.workers k.worker) (none_true (underway s h) k.none_underway) (none_true (held_by h w) k.holds_nothing) k.starved k.target
allows_true s h (Evict w c) k = let l = k.load in
    all2 (with_load (underway s h) (evicts_for s h w)) (is_victim s h c)
    (load_true (underway s h) (evicts_for s h w) l k.is_load.underway
    (all3 (l.worker == w) (is_fresh l) (nat_lt (free_frames s h) (length l.missing))
    (eqb_true l.worker w k.is_load.by_worker) (ap (λ (b : List (ℕ × ℕ)). length b == 0) k.none_begun) (lt_true (free_frames s h) (length l.missing) k.too_few)))
    k.victim
allows_true s h (Fill w f p) k = let l = k.load in
    load_true (underway s h) (fills_for s h w f p) l k.is_load.underway
    (all6 (l.worker == w) (nat_le (length l.missing) (free_frames s h + length l.begun)) (nat_lt f s.frames) (is_free s h f) (has l.missing p) (not (begins l p))
    (eqb_true l.worker w k.is_load.by_worker) (le_true (length l.missing) (free_frames s h + length l.begun) k.enough) (lt_true f s.frames k.frame) k.free k.piece (not_true (begins l p) k.not_begun))
allows_true s h (Filled w f p) k = let l = k.load in
    load_true (underway s h) (filled_for w f p) l k.is_load.underway
    (all4 (l.worker == w) (begins_in l f p) (not (has l.filled p)) (all_begun l)
    (eqb_true l.worker w k.is_load.by_worker) k.begun (not_true (has l.filled p) k.not_filled) k.all_begun)
allows_true s h (Failed w q p why) k = let l = k.load in
    load_true (underway s h) (fails_for w q p why) l k.is_load.underway
    (all6 (l.worker == w) (l.query == q) (begins l p) (not (has l.filled p)) (all_begun l) (is_reason why)
    (eqb_true l.worker w k.is_load.by_worker) (eqb_true l.query q k.for_query) k.begun (not_true (has l.filled p) k.not_filled) k.all_begun (reason_true why k.reason))
allows_true s h (Deliver w q c) k =
    all3 (is_active_on s h q w) (is_idle s h w) (is_ready s h q c) (on_true s h q w k.on) (idle_true s h w k.idle) k.ready
allows_true s h (Release w q c) k = hold_true q c (held_by h w) k
allows_true s h (Stop w q) k = all2 (is_active_on s h q w) (is_idle s h w) (on_true s h q w k.on) (idle_true s h w k.idle)
allows_true s h (End w q) k =
    all3 (is_active_on s h q w) (is_idle s h w) (needed s h q == 0) (on_true s h q w k.on) (idle_true s h w k.idle) (eqb_true (needed s h q) 0 k.needs_nothing)

-- Chosen

target_bound : (s : Setting) (h : History) (q c : ℕ) → is_target s h q c ≡ true → c < s.chunks
target_bound s h q c t = lt_is c s.chunks (and3 (nat_lt c s.chunks) (needs_chunk s h q c) (not (is_wholly_framed s h q c)) t).0

ready_bound : (s : Setting) (h : History) (q c : ℕ) → is_ready s h q c ≡ true → c < s.chunks
ready_bound s h q c t = lt_is c s.chunks (and2 (nat_lt c s.chunks) (is_available s h q c) t).0

victim_bound : (s : Setting) (h : History) (c : ℕ) → is_victim s h c ≡ true → c < s.chunks
victim_bound s h c t = lt_is c s.chunks (and5 (nat_lt c s.chunks) (nat_lt 0 (cached s h c)) (not (is_load_of c (underway s h))) (not (is_held s h c)) (not (feeds_starved s h c)) t).0

close_bound : (s : Setting) (h : History) (c : ℕ) → is_least_close s h c ≡ true → c < s.chunks
close_bound s h c t = victim_bound s h c (and2 (is_victim s h c) (not (any_below (λ y. is_victim s h y && nat_lt (close s h y) (close s h c)) s.chunks)) t).0

ratio_is : (a b c d : ℕ) → nat_le (a * d) (c * b) ≡ true → a * d ≤ c * b
ratio_is a b c d e = le_is (a * d) (c * b) e

load_from : (name : PolicyName) (cursor : List ℕ) (s : Setting) (h : History) (q c : ℕ)
    → is_best (is_target s h q) (load_at_most name cursor s h q) s.chunks c ≡ true → BestLoad name cursor s h q c
load_from Relevance cursor s h q c e = best_from (is_target s h q) (load_at_most Relevance cursor s h q) (λ a b. IsAtMost (load_ratio s h q a) (load_ratio s h q b)) s.chunks c (target_bound s h q) (λ a b t. le_is _ _ t) e
load_from Elevator cursor s h q c e = best_from (is_target s h q) (load_at_most Elevator cursor s h q) (λ a b. dist s cursor b ≤ dist s cursor a) s.chunks c (target_bound s h q) (λ a b t. le_is _ _ t) e
load_from Normal cursor s h q c e = best_from (is_target s h q) (load_at_most Normal cursor s h q) (λ a b. b ≤ a) s.chunks c (target_bound s h q) (λ a b t. le_is _ _ t) e
load_from Attach cursor s h q c e = best_from (is_target s h q) (load_at_most Attach cursor s h q) (λ a b. dist_from s (start_of cursor q) b ≤ dist_from s (start_of cursor q) a) s.chunks c (target_bound s h q) (λ a b t. le_is _ _ t) e

load_to : (name : PolicyName) (cursor : List ℕ) (s : Setting) (h : History) (q c : ℕ)
    → BestLoad name cursor s h q c → is_best (is_target s h q) (load_at_most name cursor s h q) s.chunks c ≡ true
load_to Relevance cursor s h q c k = best_to (is_target s h q) (load_at_most Relevance cursor s h q) (λ a b. IsAtMost (load_ratio s h q a) (load_ratio s h q b)) s.chunks c (λ a b t. le_true _ _ t) k
load_to Elevator cursor s h q c k = best_to (is_target s h q) (load_at_most Elevator cursor s h q) (λ a b. dist s cursor b ≤ dist s cursor a) s.chunks c (λ a b t. le_true _ _ t) k
load_to Normal cursor s h q c k = best_to (is_target s h q) (load_at_most Normal cursor s h q) (λ a b. b ≤ a) s.chunks c (λ a b t. le_true _ _ t) k
load_to Attach cursor s h q c k = best_to (is_target s h q) (load_at_most Attach cursor s h q) (λ a b. dist_from s (start_of cursor q) b ≤ dist_from s (start_of cursor q) a) s.chunks c (λ a b t. le_true _ _ t) k

delivery_from : (name : PolicyName) (cursor : List ℕ) (s : Setting) (h : History) (q c : ℕ)
    → is_best (is_ready s h q) (delivery_at_most name cursor s h q) s.chunks c ≡ true → BestDelivery name cursor s h q c
delivery_from Relevance cursor s h q c e = best_from (is_ready s h q) (delivery_at_most Relevance cursor s h q) (λ a b. IsAtMost (use_ratio s h q a) (use_ratio s h q b)) s.chunks c (ready_bound s h q) (λ a b t. le_is _ _ t) e
delivery_from Elevator cursor s h q c e = best_from (is_ready s h q) (delivery_at_most Elevator cursor s h q) (λ a b. dist s cursor b ≤ dist s cursor a) s.chunks c (ready_bound s h q) (λ a b t. le_is _ _ t) e
delivery_from Normal cursor s h q c e = best_from (is_ready s h q) (delivery_at_most Normal cursor s h q) (λ a b. b ≤ a) s.chunks c (ready_bound s h q) (λ a b t. le_is _ _ t) e
delivery_from Attach cursor s h q c e = best_from (is_ready s h q) (delivery_at_most Attach cursor s h q) (λ a b. dist_from s (start_of cursor q) b ≤ dist_from s (start_of cursor q) a) s.chunks c (ready_bound s h q) (λ a b t. le_is _ _ t) e

delivery_to : (name : PolicyName) (cursor : List ℕ) (s : Setting) (h : History) (q c : ℕ)
    → BestDelivery name cursor s h q c → is_best (is_ready s h q) (delivery_at_most name cursor s h q) s.chunks c ≡ true
delivery_to Relevance cursor s h q c k = best_to (is_ready s h q) (delivery_at_most Relevance cursor s h q) (λ a b. IsAtMost (use_ratio s h q a) (use_ratio s h q b)) s.chunks c (λ a b t. le_true _ _ t) k
delivery_to Elevator cursor s h q c k = best_to (is_ready s h q) (delivery_at_most Elevator cursor s h q) (λ a b. dist s cursor b ≤ dist s cursor a) s.chunks c (λ a b t. le_true _ _ t) k
delivery_to Normal cursor s h q c k = best_to (is_ready s h q) (delivery_at_most Normal cursor s h q) (λ a b. b ≤ a) s.chunks c (λ a b t. le_true _ _ t) k
delivery_to Attach cursor s h q c k = best_to (is_ready s h q) (delivery_at_most Attach cursor s h q) (λ a b. dist_from s (start_of cursor q) b ≤ dist_from s (start_of cursor q) a) s.chunks c (λ a b t. le_true _ _ t) k

victim_from : (name : PolicyName) (cursor : List ℕ) (s : Setting) (h : History) (c : ℕ)
    → is_best (is_victim_of name s h) (victim_at_most name cursor s h) s.chunks c ≡ true → BestVictim name cursor s h c
victim_from Relevance cursor s h c e = best_from (is_victim s h) (victim_at_most Relevance cursor s h) (λ a b. IsAtMost (keep_ratio s h b) (keep_ratio s h a)) s.chunks c (victim_bound s h) (λ a b t. le_is _ _ t) e
victim_from Elevator cursor s h c e = best_from (is_least_close s h) (victim_at_most Elevator cursor s h) (λ a b. dist s cursor b ≤ dist s cursor a) s.chunks c (close_bound s h) (λ a b t. le_is _ _ t) e
victim_from Normal cursor s h c e = best_from (is_least_close s h) (victim_at_most Normal cursor s h) (λ a b. place_in cursor b ≤ place_in cursor a) s.chunks c (close_bound s h) (λ a b t. le_is _ _ t) e
victim_from Attach cursor s h c e = best_from (is_least_close s h) (victim_at_most Attach cursor s h) (λ a b. interested s h b ≤ interested s h a) s.chunks c (close_bound s h) (λ a b t. le_is _ _ t) e

victim_to : (name : PolicyName) (cursor : List ℕ) (s : Setting) (h : History) (c : ℕ)
    → BestVictim name cursor s h c → is_best (is_victim_of name s h) (victim_at_most name cursor s h) s.chunks c ≡ true
victim_to Relevance cursor s h c k = best_to (is_victim s h) (victim_at_most Relevance cursor s h) (λ a b. IsAtMost (keep_ratio s h b) (keep_ratio s h a)) s.chunks c (λ a b t. le_true _ _ t) k
victim_to Elevator cursor s h c k = best_to (is_least_close s h) (victim_at_most Elevator cursor s h) (λ a b. dist s cursor b ≤ dist s cursor a) s.chunks c (λ a b t. le_true _ _ t) k
victim_to Normal cursor s h c k = best_to (is_least_close s h) (victim_at_most Normal cursor s h) (λ a b. place_in cursor b ≤ place_in cursor a) s.chunks c (λ a b t. le_true _ _ t) k
victim_to Attach cursor s h c k = best_to (is_least_close s h) (victim_at_most Attach cursor s h) (λ a b. interested s h b ≤ interested s h a) s.chunks c (λ a b t. le_true _ _ t) k

-- the trigger: its candidates are queries of the needs

trigger_named : (s : Setting) (h : History) (q : ℕ) → is_trigger s h q ≡ true → is_some (need_of s q) ≡ true
trigger_named s h q t = (and4 (is_some (need_of s q)) (is_none (underway s h)) (is_starved s h q) (any_below (is_target s h q) s.chunks) t).0

query_from_tests : (at_most : ℕ → ℕ → Bool) (AtMost : ℕ → ℕ → Type 0) (s : Setting) (h : History) (q : ℕ) → ((a b : ℕ) → at_most a b ≡ true → AtMost a b)
    → (is_trigger s h q && not (list_any (λ n. is_trigger s h n.query && not (at_most n.query q)) s.needs)) ≡ true → IsBest (is_trigger s h) AtMost q
query_from_tests at_most AtMost s h q says e =
    let p = and2 (is_trigger s h q) (not (list_any (λ n. is_trigger s h n.query && not (at_most n.query q)) s.needs)) e in record {
      candidate = p.0;
      best = λ y t. says y q (not_better_is (is_trigger s h y) (at_most y q)
          (none_needs (λ k. is_trigger s h k && not (at_most k q)) y s.needs (not_is (list_any (λ n. is_trigger s h n.query && not (at_most n.query q)) s.needs) p.1) (trigger_named s h y t)) t);
    }

query_to_tests : (at_most : ℕ → ℕ → Bool) (AtMost : ℕ → ℕ → Type 0) (s : Setting) (h : History) (q : ℕ) → ((a b : ℕ) → AtMost a b → at_most a b ≡ true)
    → IsBest (is_trigger s h) AtMost q → (is_trigger s h q && not (list_any (λ n. is_trigger s h n.query && not (at_most n.query q)) s.needs)) ≡ true
query_to_tests at_most AtMost s h q says best =
    all2 (is_trigger s h q) (not (list_any (λ n. is_trigger s h n.query && not (at_most n.query q)) s.needs)) best.candidate
    (not_true (list_any (λ n. is_trigger s h n.query && not (at_most n.query q)) s.needs)
    (needs_none (λ k. is_trigger s h k && not (at_most k q)) s.needs (λ y. not_better (is_trigger s h y) (at_most y q) (λ t. says y q (best.best y t)))))

query_from : (name : PolicyName) (cursor : List ℕ) (s : Setting) (h : History) (q : ℕ)
    → (is_trigger s h q && not (list_any (λ n. is_trigger s h n.query && not (query_at_most name cursor s h n.query q)) s.needs)) ≡ true → BestQuery name cursor s h q
query_from Relevance cursor s h q e = query_from_tests (query_at_most Relevance cursor s h) (λ a b. query_rank s h a ≤ℤ query_rank s h b) s h q
    (λ a b t. rank_is (waiting s h a) (running s h * needed s h a) (waiting s h b) (running s h * needed s h b) t) e
query_from Elevator cursor s h q e = query_from_tests (query_at_most Elevator cursor s h) (λ a b. reach s h cursor b ≤ reach s h cursor a) s h q (λ a b t. le_is _ _ t) e
query_from Normal cursor s h q e = query_from_tests (query_at_most Normal cursor s h) (λ a b. waiting s h a ≤ waiting s h b) s h q (λ a b t. le_is _ _ t) e
query_from Attach cursor s h q e = query_from_tests (query_at_most Attach cursor s h) (λ a b. waiting s h a ≤ waiting s h b) s h q (λ a b t. le_is _ _ t) e

query_to : (name : PolicyName) (cursor : List ℕ) (s : Setting) (h : History) (q : ℕ)
    → BestQuery name cursor s h q → (is_trigger s h q && not (list_any (λ n. is_trigger s h n.query && not (query_at_most name cursor s h n.query q)) s.needs)) ≡ true
query_to Relevance cursor s h q k = query_to_tests (query_at_most Relevance cursor s h) (λ a b. query_rank s h a ≤ℤ query_rank s h b) s h q
    (λ a b t. rank_true (waiting s h a) (running s h * needed s h a) (waiting s h b) (running s h * needed s h b) t) k
query_to Elevator cursor s h q k = query_to_tests (query_at_most Elevator cursor s h) (λ a b. reach s h cursor b ≤ reach s h cursor a) s h q (λ a b t. le_true _ _ t) k
query_to Normal cursor s h q k = query_to_tests (query_at_most Normal cursor s h) (λ a b. waiting s h a ≤ waiting s h b) s h q (λ a b t. le_true _ _ t) k
query_to Attach cursor s h q k = query_to_tests (query_at_most Attach cursor s h) (λ a b. waiting s h a ≤ waiting s h b) s h q (λ a b t. le_true _ _ t) k

pub chooses_is : (s : Setting) (h : History) (e : Entry) → chooses (cursor_at s h) s h e ≡ true → Chosen s h e
chooses_is s h (Plan w q c) e =
    let p = and2 (is_best_query (cursor_at s h) s h q) (is_best_load (cursor_at s h) s h q c) e in
    (query_from s.policy (cursor_at s h) s h q p.0, load_from s.policy (cursor_at s h) s h q c p.1)
chooses_is s h (Deliver w q c) e = delivery_from s.policy (cursor_at s h) s h q c e
chooses_is s h (Evict w c) e = victim_from s.policy (cursor_at s h) s h c e
chooses_is s h (Register w q) e = tt
chooses_is s h (Fill w f p) e = tt
chooses_is s h (Filled w f p) e = tt
chooses_is s h (Failed w q p why) e = tt
chooses_is s h (Release w q c) e = tt
chooses_is s h (Stop w q) e = tt
chooses_is s h (End w q) e = tt

pub chooses_true : (s : Setting) (h : History) (e : Entry) → Chosen s h e → chooses (cursor_at s h) s h e ≡ true
chooses_true s h (Plan w q c) k =
    all2 (is_best_query (cursor_at s h) s h q) (is_best_load (cursor_at s h) s h q c)
    (query_to s.policy (cursor_at s h) s h q k.0) (load_to s.policy (cursor_at s h) s h q c k.1)
chooses_true s h (Deliver w q c) k = delivery_to s.policy (cursor_at s h) s h q c k
chooses_true s h (Evict w c) k = victim_to s.policy (cursor_at s h) s h c k
chooses_true s h (Register w q) k = refl
chooses_true s h (Fill w f p) k = refl
chooses_true s h (Filled w f p) k = refl
chooses_true s h (Failed w q p why) k = refl
chooses_true s h (Release w q c) k = refl
chooses_true s h (Stop w q) k = refl
chooses_true s h (End w q) k = refl

-- Legal

follows_is : (s : Setting) (h : History) (e : Entry) → follows s h e ≡ true → Allowed s h e × Chosen s h e
follows_is s h e t = let p = and2 (allows s h e) (chooses (cursor_at s h) s h e) t in (allows_is s h e p.0, chooses_is s h e p.1)

follows_true : (s : Setting) (h : History) (e : Entry) → Allowed s h e → Chosen s h e → follows s h e ≡ true
follows_true s h e a k = all2 (allows s h e) (chooses (cursor_at s h) s h e) (allows_true s h e a) (chooses_true s h e k)

pub legal_is : (s : Setting) (h : History) → is_legal s h ≡ true → Legal s h
legal_is s [] t = tt
legal_is s (e ∷ h) t = let p = and2 (follows s h e) (is_legal s h) t in let k = follows_is s h e p.0 in (k.0, k.1, legal_is s h p.1)

pub legal_true : (s : Setting) (h : History) → Legal s h → is_legal s h ≡ true
legal_true s [] k = refl
legal_true s (e ∷ h) k = all2 (follows s h e) (is_legal s h) (follows_true s h e k.0 k.1) (legal_true s h k.2)

past_push : (es : List Entry) (e : Entry) → past (es ++ e ∷ []) ≡ e ∷ past es
past_push es e = reverse-append es (e ∷ [])

-- one more entry of a story that is legal so far
pub step_true : (s : Setting) (es : List Entry) (i : ℕ) (e : Entry) → take (i + 1) es ≡ take i es ++ e ∷ [] → Legal s (past (take i es)) → follows s (past (take i es)) e ≡ true → Legal s (past (take (i + 1) es))
step_true s es i e more k t = let P : History → Type 0 = λ h. Legal s h in
    let f = follows_is s (past (take i es)) e t in subst P (sym (ap past more ∙ past_push (take i es) e)) (f.0, f.1, k)

pub step_false : (s : Setting) (es : List Entry) (i : ℕ) (e : Entry) → take (i + 1) es ≡ take i es ++ e ∷ [] → i < length es → Legal s (past (take i es)) → follows s (past (take i es)) e ≡ false → IsFirstIllegal s es (Some i)
step_false s es i e more lt k t = let P : History → Type 0 = λ h. Legal s h in (
  lt,
  k,
  λ bad. let legal = subst P (ap past more ∙ past_push (take i es) e) bad in
      let clash : true ≡ false = sym (follows_true s (past (take i es)) e legal.0 legal.1) ∙ t in absurd cc,
)

pub whole_story : (s : Setting) (es : List Entry) (i : ℕ) → length es ≤ i → Legal s (past (take i es)) → Legal s (past es)
whole_story s es i le k = let P : List Entry → Type 0 = λ xs. Legal s (past xs) in subst P (take_all i es le) k
