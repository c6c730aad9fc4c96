-- What is asked of a next entry, as tests.
use Rattle.scan_story.specs.Counting.{count_among}
use Rattle.std.specs.Prelude.{◌==◌, ◌+◌, ◌*◌, ◌&&◌, ◌||◌, not, true, false, ℕ, Bool, List, []}
use Rattle.std.specs.Prelude.{◌∷◌, Option, None, Some, is_none, is_some, nat_lt, nat_le, length}
use Rattle.std.specs.List.{list_any}
use Rattle.scan_story.specs.declared.ratio.Ratio.{Ratio}
use Rattle.scan_story.specs.declared.entry.Why.{Why}
use Rattle.scan_story.specs.declared.entry.Why.TheVariants.{Fault, Damage}
use Rattle.scan_story.specs.declared.view.Hold.{Hold}
use Rattle.scan_story.specs.declared.view.Load.{Load}
use Rattle.scan_story.specs.declared.setting.Setting.{Setting}
use Rattle.scan_story.specs.declared.setting.PolicyName.{PolicyName}
use Rattle.scan_story.specs.declared.setting.PolicyName.TheVariants.{Relevance, Elevator, Normal, Attach}
use Rattle.scan_story.specs.declared.entry.Entry.{Entry}
use Rattle.scan_story.specs.declared.entry.Entry.TheVariants.{Register, Plan, Evict, Fill, Filled}
use Rattle.scan_story.specs.declared.entry.Entry.TheVariants.{Failed, Deliver, Release, Stop, End}
use Rattle.scan_story.specs.Counting.{has, any_below, is_number}
use Rattle.scan_story.specs.Setting.{worker_of}
use Rattle.scan_story.specs.Whole.{has_taken, had_piece}
use Rattle.std.specs.List.{list_all}
use Rattle.scan_story.specs.Views.{registers, is_ended, is_stopped, History, is_registered, is_active, held_by}
use Rattle.scan_story.specs.Loads.{underway, begins, begins_in, all_begun, is_load_by, is_free, free_frames}
use Rattle.scan_story.specs.Numbers.{needed, waiting, running, interested, is_starved}
use Rattle.scan_story.specs.Ratios.{load_ratio, use_ratio, keep_ratio}
use Rattle.scan_story.specs.MayFollow.{is_target, is_ready, is_trigger, is_victim}
use Rattle.scan_story.specs.Legal.{cursor_at}
use Rattle.scan_story.specs.Policies.{dist_from, dist, reach, place_in, start_of, is_least_close}

-- Allowed

abbrev pub is_idle : Setting → History → ℕ → Bool
is_idle s h w = is_none (held_by h w) && not (is_load_by w (underway s h))

abbrev pub is_active_on : Setting → History → ℕ → ℕ → Bool
is_active_on s h q w = is_active h q && is_number w (worker_of s q)

abbrev pub has_active : Setting → History → ℕ → Bool
has_active s h w = list_any (λ n. n.worker == w && is_active h n.query) s.needs

abbrev pub is_rise : ℕ → ℕ → Bool
is_rise before after = nat_lt before after || (before == 18446744073709551615 && after == 18446744073709551615)

abbrev pub is_reason : Why → Bool
is_reason (Fault before after) = is_rise before after
is_reason (Damage word) = true

-- no fill was begun
abbrev pub is_fresh : Load → Bool
is_fresh l = length l.begun == 0

abbrev pub evicts_for : Setting → History → ℕ → Load → Bool
evicts_for s h w l = l.worker == w && is_fresh l && nat_lt (free_frames s h) (length l.missing)

abbrev pub fills_for : Setting → History → ℕ → ℕ → ℕ → Load → Bool
fills_for s h w f p l =
    l.worker == w && nat_le (length l.missing) (free_frames s h + length l.begun) && nat_lt f s.frames && is_free s h f
    && has l.missing p && not (begins l p)

abbrev pub filled_for : ℕ → ℕ → ℕ → Load → Bool
filled_for w f p l = l.worker == w && begins_in l f p && not (has l.filled p) && all_begun l

abbrev pub fails_for : ℕ → ℕ → ℕ → Why → Load → Bool
fails_for w q p why l = l.worker == w && l.query == q && begins l p && not (has l.filled p) && all_begun l
    && is_reason why

abbrev pub with_load : Option Load → (Load → Bool) → Bool
with_load None p = false
with_load (Some l) p = p l

abbrev pub is_hold : ℕ → ℕ → Option Hold → Bool
is_hold q c None = false
is_hold q c (Some o) = o.query == q && o.chunk == c

abbrev pub allows : Setting → History → Entry → Bool
allows s h (Register w q) = not (is_registered h q) && is_number w (worker_of s q) && not (has_active s h w)
    && is_idle s h w
allows s h (Plan w q c) = nat_lt w s.workers && is_none (underway s h) && is_none (held_by h w) && is_starved s h q
    && is_target s h q c
allows s h (Evict w c) = with_load (underway s h) (evicts_for s h w) && is_victim s h c
allows s h (Fill w f p) = with_load (underway s h) (fills_for s h w f p)
allows s h (Filled w f p) = with_load (underway s h) (filled_for w f p)
allows s h (Failed w q p why) = with_load (underway s h) (fails_for w q p why)
allows s h (Deliver w q c) = is_active_on s h q w && is_idle s h w && is_ready s h q c
allows s h (Release w q c) = is_hold q c (held_by h w)
allows s h (Stop w q) = is_active_on s h q w && is_idle s h w
allows s h (End w q) = is_active_on s h q w && is_idle s h w && (needed s h q == 0)

-- Chosen

abbrev pub ratio_at_most : Ratio → Ratio → Bool
ratio_at_most a b = nat_le (a.num * b.den) (b.num * a.den)

-- a is at most as good as b
abbrev pub query_at_most : PolicyName → List ℕ → Setting → History → ℕ → ℕ → Bool
query_at_most Relevance cursor s h a b = nat_le (waiting s h a + running s h * needed s h b)
    (waiting s h b + running s h * needed s h a)
query_at_most Elevator cursor s h a b = nat_le (reach s h cursor b) (reach s h cursor a)
query_at_most Normal cursor s h a b = nat_le (waiting s h a) (waiting s h b)
query_at_most Attach cursor s h a b = nat_le (waiting s h a) (waiting s h b)

abbrev pub load_at_most : PolicyName → List ℕ → Setting → History → ℕ → ℕ → ℕ → Bool
load_at_most Relevance cursor s h q a b = ratio_at_most (load_ratio s h q a) (load_ratio s h q b)
load_at_most Elevator cursor s h q a b = nat_le (dist s cursor b) (dist s cursor a)
load_at_most Normal cursor s h q a b = nat_le b a
load_at_most Attach cursor s h q a b = nat_le (dist_from s (start_of cursor q) b) (dist_from s (start_of cursor q) a)

abbrev pub delivery_at_most : PolicyName → List ℕ → Setting → History → ℕ → ℕ → ℕ → Bool
delivery_at_most Relevance cursor s h q a b = ratio_at_most (use_ratio s h q a) (use_ratio s h q b)
delivery_at_most Elevator cursor s h q a b = nat_le (dist s cursor b) (dist s cursor a)
delivery_at_most Normal cursor s h q a b = nat_le b a
delivery_at_most Attach cursor s h q a b = nat_le (dist_from s (start_of cursor q) b)
    (dist_from s (start_of cursor q) a)

abbrev pub victim_at_most : PolicyName → List ℕ → Setting → History → ℕ → ℕ → Bool
victim_at_most Relevance cursor s h a b = ratio_at_most (keep_ratio s h b) (keep_ratio s h a)
victim_at_most Elevator cursor s h a b = nat_le (dist s cursor b) (dist s cursor a)
victim_at_most Normal cursor s h a b = nat_le (place_in cursor b) (place_in cursor a)
victim_at_most Attach cursor s h a b = nat_le (interested s h b) (interested s h a)

abbrev pub is_victim_of : PolicyName → Setting → History → ℕ → Bool
is_victim_of Relevance s h c = is_victim s h c
is_victim_of Elevator s h c = is_least_close s h c
is_victim_of Normal s h c = is_least_close s h c
is_victim_of Attach s h c = is_least_close s h c

-- x is a candidate, and none of those below n is better
abbrev pub is_best : (ℕ → Bool) → (ℕ → ℕ → Bool) → ℕ → ℕ → Bool
is_best is_candidate at_most n x = is_candidate x && not (any_below (λ y. is_candidate y && not (at_most y x)) n)

abbrev pub is_best_query : List ℕ → Setting → History → ℕ → Bool
is_best_query cursor s h q =
    is_trigger s h q && not
    (list_any (λ n. is_trigger s h n.query && not (query_at_most s.policy cursor s h n.query q)) s.needs)

abbrev pub is_best_load : List ℕ → Setting → History → ℕ → ℕ → Bool
is_best_load cursor s h q c = is_best (is_target s h q) (load_at_most s.policy cursor s h q) s.chunks c

abbrev pub is_best_delivery : List ℕ → Setting → History → ℕ → ℕ → Bool
is_best_delivery cursor s h q c = is_best (is_ready s h q) (delivery_at_most s.policy cursor s h q) s.chunks c

abbrev pub is_best_victim : List ℕ → Setting → History → ℕ → Bool
is_best_victim cursor s h c = is_best (is_victim_of s.policy s h) (victim_at_most s.policy cursor s h) s.chunks c

abbrev pub chooses : List ℕ → Setting → History → Entry → Bool
chooses cursor s h (Plan w q c) = is_best_query cursor s h q && is_best_load cursor s h q c
chooses cursor s h (Deliver w q c) = is_best_delivery cursor s h q c
chooses cursor s h (Evict w c) = is_best_victim cursor s h c
chooses cursor s h _ = true

abbrev pub follows : Setting → History → Entry → Bool
follows s h e = allows s h e && chooses (cursor_at s h) s h e

abbrev pub is_legal : Setting → History → Bool
is_legal s [] = true
is_legal s (e ∷ h) = follows s h e && is_legal s h

-- Whole histories

abbrev pub is_undisturbed : Setting → History → Bool
is_undisturbed s [] = true
is_undisturbed s (Evict w c ∷ h) = not (any_below (λ v. has_taken h v c) s.workers) && is_undisturbed s h
is_undisturbed s (Fill w f p ∷ h) = not (any_below (λ v. had_piece s h v f) s.workers) && is_undisturbed s h
is_undisturbed s (_ ∷ h) = is_undisturbed s h

abbrev pub is_licensed : Bool → ℕ → ℕ → History → Bool
is_licensed told from to [] = nat_le from to
is_licensed told from to (Failed w q p (Fault before after) ∷ h) = nat_le after to && is_rise before after
    && is_licensed told from before h
is_licensed told from to (Failed w q p (Damage word) ∷ h) = not told && is_licensed told from to h
is_licensed told from to (_ ∷ h) = is_licensed told from to h

-- the query has one Register, and has ended or stopped
abbrev pub is_finished : History → ℕ → Bool
is_finished h q = count_among (registers q) h == 1 && (is_ended h q || is_stopped h q)

abbrev pub is_complete : Setting → History → Bool
is_complete s h =
    list_all (λ n. is_finished h n.query) s.needs && is_none (underway s h)
    && not (any_below (λ w. is_some (held_by h w)) s.workers)
