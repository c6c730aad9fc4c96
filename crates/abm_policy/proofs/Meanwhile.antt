-- What stays true for a worker while others add to the story: one entry after another.
use Rattle.std.proofs.Common.{◌≡◌, ◌≢◌, ◌==◌, ◌&&◌, ◌||◌, ◌∷◌, [], ◌++◌, ℕ, Bool, true, false, cond, if◌then◌else◌, List, find, Option, None, Some, append_assoc, refl, sym, ◌∙◌, ap, subst}
use Rattle.std.proofs.lemmas.List.{append-nil, append_cancel_left}
use Rattle.std.proofs.lemmas.List.Elements.{filter-append}
use Rattle.std.specs.List.{AllByRecursion, list_any}
use Rattle.std.specs.Option.{option_map}
use Rattle.scan_story.specs.declared.entry.Entry.{Entry}
use Rattle.scan_story.specs.declared.entry.Entry.TheVariants.{Register, Plan, Evict, Fill, Filled, Failed, Deliver, Release, Stop, End}
use Rattle.scan_story.specs.declared.setting.Need.{Need}
use Rattle.scan_story.specs.declared.setting.Setting.{Setting}
use Rattle.scan_story.specs.declared.view.Hold.{Hold}
use Rattle.scan_story.specs.declared.view.Load.{Load}
use Rattle.scan_story.specs.Setting.{AreDistinct, IsSetting, need_of, worker_in, worker_of}
use Rattle.scan_story.specs.Makers.{entries_by, maker_of}
use Rattle.scan_story.specs.Views.{History, past, registers, stops, ends, is_registered, is_stopped, is_ended, is_active, held_by}
use Rattle.scan_story.specs.Loads.{underway, begin_fill, end_fill, if_open, is_open, is_load_by}
use Rattle.scan_story.specs.MayFollow.{Allowed, IsIdle}
use Rattle.scan_story.specs.Legal.{Legal}
use Rattle.scan_story.proofs.Prefixes.{begin_legal, past_next}
use Rattle.story_laws.proofs.Active.{active_of, active_parts, listed}
use Rattle.story_laws.proofs.Bools.{and_both, both_and, either, equal_number, if_here, if_not, if_other, none_some, not_both, or_false, or_right, same_number, same_some, self_number}
use Rattle.story_laws.proofs.Grouped.{worker_is}
use Rattle.story_laws.proofs.Sums.{found_query}
use Rattle.abm_policy.specs.Waiting.{HoldsStay, IsLoadedStill, LoadsStay, RegistersStay, RunsStay, TurnsStay, WentOn}

-- Entries of others

-- none of the entries is the worker's
abbrev NoneBy : ℕ → List Entry → Type 0
NoneBy w [] = Unit {0}
NoneBy w (e ∷ es) = ((maker_of e == w) ≡ false) × NoneBy w es

none_by : (w : ℕ) (es : List Entry) → entries_by w es ≡ [] → NoneBy w es
none_by w [] is = tt
none_by w (e ∷ es) is =
    elim (maker_of e == w) as (λ t. cond t (e ∷ entries_by w es) (entries_by w es) ≡ [] → (t ≡ false) × NoneBy w es) [
      | true ↦ λ x. absurd cc
      | false ↦ λ x. (refl, none_by w es x)
    ] is

none_added : (w : ℕ) (old rest : List Entry) → entries_by w (old ++ rest) ≡ entries_by w old → NoneBy w rest
none_added w old rest same =
    none_by w rest (append_cancel_left (entries_by w old) (entries_by w rest) []
    (sym (filter-append (λ e. maker_of e == w) old rest) ∙ (same ∙ sym (append-nil (entries_by w old)))))

-- what each legal entry of others keeps is kept by all of them
along : (P : History → Type 0) (s : Setting) (w : ℕ) → ((e : Entry) (h : History) → (maker_of e == w) ≡ false → Legal s (e ∷ h) → P h → P (e ∷ h))
    → (old rest : List Entry) → NoneBy w rest → Legal s (past (old ++ rest)) → P (past old) → P (past (old ++ rest))
along P s w step old [] none legal p = subst (λ (l : List Entry). P (past l)) (sym (append-nil old)) p
along P s w step old (e ∷ rest) none legal p =
    let joined : old ++ e ∷ rest ≡ (old ++ e ∷ []) ++ rest = sym (append_assoc old (e ∷ []) rest) in
    let whole = subst (λ (l : List Entry). Legal s (past l)) joined legal in
    let here = subst (Legal s) (past_next old e) (begin_legal s ((old ++ e ∷ []) ++ rest) (old ++ e ∷ []) (rest, refl) whole) in
    let next = subst P (sym (past_next old e)) (step e (past old) none.0 here p) in
    subst (λ (l : List Entry). P (past l)) (sym joined) (along P s w step (old ++ e ∷ []) rest none.1 whole next)

while_waiting : (P : History → Type 0) (s : Setting) (w : ℕ) (old new : List Entry) → ((e : Entry) (h : History) → (maker_of e == w) ≡ false → Legal s (e ∷ h) → P h → P (e ∷ h))
    → WentOn s w old new → P (past old) → P (past new)
while_waiting P s w old new step on p =
    let rest = on.begins.0 in
    let is = on.begins.1 in
    let none = none_added w old rest (ap (entries_by w) (sym is) ∙ on.own) in
    subst (λ (l : List Entry). P (past l)) (sym is) (along P s w step old rest none (subst (λ (l : List Entry). Legal s (past l)) is on.legal) p)

-- two workers of one query are one
pub not_mine : (s : Setting) (r q v w : ℕ) → worker_of s r ≡ Some v → worker_of s q ≡ Some w → (v == w) ≡ false → (r == q) ≡ false
not_mine s r q v w on_r on_q other = if_not (r == q) (λ t.
    let P : ℕ → Type 0 = λ x. worker_of s x ≡ Some v in
    not_both (v == w) (equal_number v w (same_some v w (sym (subst P (same_number r q t) on_r) ∙ on_q))) other)

-- What the worker holds

holds_step : (w : ℕ) (o : Option Hold) (e : Entry) (h : History) → (maker_of e == w) ≡ false → held_by h w ≡ o → held_by (e ∷ h) w ≡ o
holds_step w o (Deliver v q c) h n p = if_other (v == w) (Some (record { query = q; chunk = c })) (held_by h w) n ∙ p
holds_step w o (Release v q c) h n p = if_other (v == w) None (held_by h w) n ∙ p
holds_step w o (Register v q) h n p = p
holds_step w o (Plan v q c) h n p = p
holds_step w o (Evict v c) h n p = p
holds_step w o (Fill v f x) h n p = p
holds_step w o (Filled v f x) h n p = p
holds_step w o (Failed v q x why) h n p = p
holds_step w o (Stop v q) h n p = p
holds_step w o (End v q) h n p = p

pub holds_stay : HoldsStay
holds_stay s w old new on =
    while_waiting (λ (h : History). held_by h w ≡ held_by (past old) w) s w old new (λ e h n legal p. holds_step w (held_by (past old) w) e h n p) on refl

-- What the worker loads

pub begun_by : (w f p : ℕ) (u : Option Load) → is_load_by w u ≡ false → is_load_by w (option_map (begin_fill f p) u) ≡ false
begun_by w f p None e = refl
begun_by w f p (Some l) e = e

open_by : (w : ℕ) (l : Load) (t : Bool) → (l.worker == w) ≡ false → is_load_by w (if t then Some l else None) ≡ false
open_by w l true e = e
open_by w l false e = refl

pub ended_by : (w p : ℕ) (u : Option Load) → is_load_by w u ≡ false → is_load_by w (if_open (option_map (end_fill p) u)) ≡ false
ended_by w p None e = refl
ended_by w p (Some l) e = open_by w (end_fill p l) (is_open (end_fill p l)) e

idle_step : (s : Setting) (w : ℕ) (e : Entry) (h : History) → (maker_of e == w) ≡ false → is_load_by w (underway s h) ≡ false → is_load_by w (underway s (e ∷ h)) ≡ false
idle_step s w (Plan v q c) h n p = n
idle_step s w (Fill v f x) h n p = begun_by w f x (underway s h) p
idle_step s w (Filled v f x) h n p = ended_by w x (underway s h) p
idle_step s w (Failed v q x why) h n p = refl
idle_step s w (Register v q) h n p = p
idle_step s w (Evict v c) h n p = p
idle_step s w (Deliver v q c) h n p = p
idle_step s w (Release v q c) h n p = p
idle_step s w (Stop v q) h n p = p
idle_step s w (End v q) h n p = p

pub loads_nothing_stays : (s : Setting) (w : ℕ) (old new : List Entry) → WentOn s w old new → is_load_by w (underway s (past old)) ≡ false → is_load_by w (underway s (past new)) ≡ false
loads_nothing_stays s w old new on =
    while_waiting (λ (h : History). is_load_by w (underway s h) ≡ false) s w old new (λ e h n legal p. idle_step s w e h n p) on

pub idle_stays : (s : Setting) (w : ℕ) (old new : List Entry) → WentOn s w old new → IsIdle s (past old) w → IsIdle s (past new) w
idle_stays s w old new on idle = record { holds_nothing = holds_stay s w old new on ∙ idle.holds_nothing; loads_nothing = loads_nothing_stays s w old new on idle.loads_nothing }

-- That its query runs

ended_step : (s : Setting) (w q : ℕ) → worker_of s q ≡ Some w → (e : Entry) (h : History) → (maker_of e == w) ≡ false → Allowed s h e → is_ended h q ≡ false → is_ended (e ∷ h) q ≡ false
ended_step s w q on (End v r) h n may p = rw (not_mine s r q v w may.on.on on n) p
ended_step s w q on (Register v r) h n may p = p
ended_step s w q on (Plan v r c) h n may p = p
ended_step s w q on (Evict v c) h n may p = p
ended_step s w q on (Fill v f x) h n may p = p
ended_step s w q on (Filled v f x) h n may p = p
ended_step s w q on (Failed v r x why) h n may p = p
ended_step s w q on (Deliver v r c) h n may p = p
ended_step s w q on (Release v r c) h n may p = p
ended_step s w q on (Stop v r) h n may p = p

pub runs_stay : RunsStay
runs_stay s w q old new on runs = record {
  on = runs.on;
  registered = while_waiting (λ (h : History). is_registered h q ≡ true) s w old new (λ e h n legal p. or_right (registers q e) (is_registered h q) p) on runs.registered;
  not_ended = while_waiting (λ (h : History). is_ended h q ≡ false) s w old new (λ e h n legal p. ended_step s w q runs.on e h n legal.0 p) on runs.not_ended;
}

pub turns_stay : TurnsStay
turns_stay s w q old new on may = record { runs = runs_stay s w q old new on may.runs; idle = idle_stays s w old new on may.idle }

-- That it may register

-- another's entry registers no query of the worker
registers_other : (s : Setting) (w q : ℕ) → worker_of s q ≡ Some w → (e : Entry) (h : History) → (maker_of e == w) ≡ false → Allowed s h e → registers q e ≡ false
registers_other s w q on (Register v r) h n may = not_mine s r q v w may.on on n
registers_other s w q on (Plan v r c) h n may = refl
registers_other s w q on (Evict v c) h n may = refl
registers_other s w q on (Fill v f x) h n may = refl
registers_other s w q on (Filled v f x) h n may = refl
registers_other s w q on (Failed v r x why) h n may = refl
registers_other s w q on (Deliver v r c) h n may = refl
registers_other s w q on (Release v r c) h n may = refl
registers_other s w q on (Stop v r) h n may = refl
registers_other s w q on (End v r) h n may = refl

pub active_before : (e : Entry) (h : History) (q : ℕ) → registers q e ≡ false → is_active (e ∷ h) q ≡ true → is_active h q ≡ true
active_before e h q none a =
    let p = active_parts (registers q e || is_registered h q) (stops q e || is_stopped h q) (ends q e || is_ended h q) a in
    let reg : is_registered h q ≡ true = either (registers q e) (is_registered h q) p.0 (λ t. absurd (not_both (registers q e) t none)) (λ t. t) in
    active_of (is_registered h q) (is_stopped h q) (is_ended h q) reg (or_false (stops q e) (is_stopped h q) p.1).1 (or_false (ends q e) (is_ended h q) p.2).1

found_all : (P : Need → Type 0) (q : ℕ) (m : Need) (ns : List Need) → AllByRecursion P ns → find (λ n. n.query == q) ns ≡ Some m → P m
found_all P q m [] all on = absurd (none_some m on)
found_all P q m (n ∷ ns) all on =
    elim (n.query == q) as (λ t. cond t (Some n) (find (λ k. k.query == q) ns) ≡ Some m → P m) [
      | true ↦ λ e. subst P (same_some n m e) all.0
      | false ↦ λ e. found_all P q m ns all.1 e
    ] on

-- a query of the worker that passes
abbrev Passing : ℕ → (ℕ → Bool) → List Need → Type 0
Passing w t ns = (q : ℕ) × (worker_in (find (λ n. n.query == q) ns) ≡ Some w) × (t q ≡ true)

passing_later : (w : ℕ) (t : ℕ → Bool) (n : Need) (ns : List Need) → AllByRecursion (λ (m : Need). n.query ≢ m.query) ns → Passing w t ns → Passing w t (n ∷ ns)
passing_later w t n ns apart r =
    let m = worker_is (find (λ k. k.query == r.0) ns) w r.1 in
    let other : (n.query == r.0) ≡ false = if_not (n.query == r.0)
    (λ e. found_all (λ (k : Need). n.query ≢ k.query) r.0 m.0 ns apart m.1 (same_number n.query r.0 e ∙ sym (found_query r.0 m.0 ns m.1))) in
    (r.0, ap worker_in (if_other (n.query == r.0) (Some n) (find (λ k. k.query == r.0) ns) other) ∙ r.1, r.2)

pub passing_of : (w : ℕ) (t : ℕ → Bool) (ns : List Need) → AreDistinct ns → list_any (λ n. n.worker == w && t n.query) ns ≡ true → Passing w t ns
passing_of w t [] apart e = absurd cc
passing_of w t (n ∷ ns) apart e =
    either (n.worker == w && t n.query) (list_any (λ k. k.worker == w && t k.query) ns) e
    (λ here. let o = and_both (n.worker == w) (t n.query) here in
    (n.query, ap worker_in (if_here (n.query == n.query) (Some n) (find (λ k. k.query == n.query) ns) (self_number n.query)) ∙ ap Some (same_number n.worker w o.0), o.1))
    (λ later. passing_later w t n ns apart.0 (passing_of w t ns apart.1 later))

pub listed_of : (s : Setting) (w : ℕ) (t : ℕ → Bool) → Passing w t s.needs → list_any (λ n. n.worker == w && t n.query) s.needs ≡ true
listed_of s w t r =
    let m = worker_is (need_of s r.0) w r.1 in
    let P : ℕ → Type 0 = λ x. t x ≡ true in
    listed r.0 m.0 (λ n. n.worker == w && t n.query) s.needs m.1
    (both_and (m.0.worker == w) (t m.0.query) (equal_number m.0.worker w (same_some m.0.worker w (sym (ap worker_in m.1) ∙ r.1))) (subst P (sym (found_query r.0 m.0 s.needs m.1)) r.2))

alone_step : (s : Setting) (w : ℕ) → IsSetting s → (e : Entry) (h : History) → (maker_of e == w) ≡ false → Allowed s h e
    → list_any (λ n. n.worker == w && is_active h n.query) s.needs ≡ false → list_any (λ n. n.worker == w && is_active (e ∷ h) n.query) s.needs ≡ false
alone_step s w m e h n may p = if_not (list_any (λ n. n.worker == w && is_active (e ∷ h) n.query) s.needs) (λ t.
    let r = passing_of w (is_active (e ∷ h)) s.needs m.distinct t in
    let before = active_before e h r.0 (registers_other s w r.0 r.1 e h n may) r.2 in
    not_both (list_any (λ n. n.worker == w && is_active h n.query) s.needs) (listed_of s w (is_active h) (r.0, r.1, before)) p)

pub registers_stay : RegistersStay
registers_stay s w q old new m on may = record {
  first = while_waiting (λ (h : History). is_registered h q ≡ false) s w old new (λ e h n legal p. rw (registers_other s w q may.on e h n legal.0) p) on may.first;
  on = may.on;
  alone = while_waiting (λ (h : History). list_any (λ n. n.worker == w && is_active h n.query) s.needs ≡ false) s w old new (λ e h n legal p. alone_step s w m e h n legal.0 p) on may.alone;
  idle = idle_stays s w old new on may.idle;
}

-- That its load is underway

not_loading : (s : Setting) (h : History) (v w : ℕ) (load l : Load) → underway s h ≡ Some load → load.worker ≡ v → underway s h ≡ Some l → l.worker ≡ w → (v == w) ≡ false → ⊥
not_loading s h v w load l is by u own n = not_both (v == w) (equal_number v w (sym by ∙ (ap (λ (x : Load). x.worker) (same_some load l (sym is ∙ u)) ∙ own))) n

load_step : (s : Setting) (w from : ℕ) (l : Load) (old : History) → l.worker ≡ w → (e : Entry) (h : History) → (maker_of e == w) ≡ false → Allowed s h e
    → IsLoadedStill s from l old h → IsLoadedStill s from l old (e ∷ h)
load_step s w from l old own (Plan v q c) h n may p = absurd (none_some l (sym may.none_underway ∙ p.underway))
load_step s w from l old own (Fill v f x) h n may p = absurd (not_loading s h v w may.load l may.is_load.underway may.is_load.by_worker p.underway own n)
load_step s w from l old own (Filled v f x) h n may p = absurd (not_loading s h v w may.load l may.is_load.underway may.is_load.by_worker p.underway own n)
load_step s w from l old own (Failed v q x why) h n may p = absurd (not_loading s h v w may.load l may.is_load.underway may.is_load.by_worker p.underway own n)
load_step s w from l old own (Register v q) h n may p = record { underway = p.underway; reads = p.reads; last_fault = p.last_fault }
load_step s w from l old own (Evict v c) h n may p = record { underway = p.underway; reads = p.reads; last_fault = p.last_fault }
load_step s w from l old own (Deliver v q c) h n may p = record { underway = p.underway; reads = p.reads; last_fault = p.last_fault }
load_step s w from l old own (Release v q c) h n may p = record { underway = p.underway; reads = p.reads; last_fault = p.last_fault }
load_step s w from l old own (Stop v q) h n may p = record { underway = p.underway; reads = p.reads; last_fault = p.last_fault }
load_step s w from l old own (End v q) h n may p = record { underway = p.underway; reads = p.reads; last_fault = p.last_fault }

pub loads_stay : LoadsStay
loads_stay s w from l old new on u own =
    while_waiting (λ (h : History). IsLoadedStill s from l (past old) h) s w old new (λ e h n legal p. load_step s w from l (past old) own e h n legal.0 p) on
    (record { underway = u; reads = refl; last_fault = refl })
