-- At most one query is active on each worker, so at most as many as there are workers.
use Rattle.std.proofs.Common.{◌≡◌, ◌≢◌, ◌<◌, ◌≤◌, ◌+◌, ◌∷◌, [], ◌==◌, ◌&&◌, ◌||◌, not, ℕ, Bool, true, false, cond, if◌then◌else◌, List, find, Some, refl, sym, ◌∙◌, ap, subst, arith}
use Rattle.std.specs.List.{AllByRecursion, list_any}
use Rattle.scan_story.specs.declared.entry.Entry.{Entry}
use Rattle.scan_story.specs.declared.entry.Entry.TheVariants.{Deliver, End, Evict, Failed, Fill, Filled, Plan, Register, Release, Stop}
use Rattle.scan_story.specs.declared.setting.Need.{Need}
use Rattle.scan_story.specs.declared.setting.Setting.{Setting}
use Rattle.scan_story.specs.Counting.{count_among, count_below}
use Rattle.scan_story.specs.Legal.{Legal}
use Rattle.scan_story.specs.MayFollow.{Allowed, MayRegister}
use Rattle.scan_story.specs.Setting.{AreDistinct, IsNeed, IsSetting, need_of, worker_in, worker_of}
use Rattle.scan_story.specs.Views.{History, is_active, is_ended, is_registered, is_stopped}
use Rattle.scan_story.proofs.Counts.{below_within}
use Rattle.story_laws.specs.Queries.{FewAreActive, OneActiveAWorker}
use Rattle.story_laws.proofs.Bools.{and_both, and_false, and_true, both_and, equal_number, if_not, none_some, not_both, not_false, or_false, or_left, or_off, or_right, other_number, same_number, same_some, self_number}
use Rattle.story_laws.proofs.Counts.{count_more, count_same}
use Rattle.story_laws.proofs.Grouped.{worker_is}
use Rattle.story_laws.proofs.Sums.{found_query}

-- Tests of a query's state: x is what a new entry adds

pub active_parts : (r t e : Bool) → (r && not t && not e) ≡ true → (r ≡ true) × (t ≡ false) × (e ≡ false)
active_parts r t e a = let o = and_both (r && not t) (not e) a in let p = and_both r (not t) o.0 in (p.0, not_false t p.1, not_false e o.1)

pub active_of : (r t e : Bool) → r ≡ true → t ≡ false → e ≡ false → (r && not t && not e) ≡ true
active_of r t e i j k = rw (i, j, k) refl

pub active_before_stop : (x r t e : Bool) → (r && not (x || t) && not e) ≡ true → (x ≡ false) × ((r && not t && not e) ≡ true)
active_before_stop x r t e a =
    let p = active_parts r (x || t) e a in let o = or_false x t p.1 in (o.0, active_of r t e p.0 o.1 p.2)

pub active_before_end : (x r t e : Bool) → (r && not t && not (x || e)) ≡ true → (x ≡ false) × ((r && not t && not e) ≡ true)
active_before_end x r t e a =
    let p = active_parts r t (x || e) a in let o = or_false x e p.2 in (o.0, active_of r t e p.0 p.1 o.1)

-- At most one active query a worker

pub listed : (q : ℕ) (m : Need) (t : Need → Bool) (ns : List Need) → find (λ n. n.query == q) ns ≡ Some m → t m ≡ true → list_any t ns ≡ true
listed q m t [] on e = absurd (none_some m on)
listed q m t (n ∷ ns) on e =
    elim (n.query == q) as (λ b. cond b (Some n) (find (λ k. k.query == q) ns) ≡ Some m → list_any t (n ∷ ns) ≡ true) [
      | true ↦ λ f. or_left (t n) (list_any t ns) (ap t (same_some n m f) ∙ e)
      | false ↦ λ f. or_right (t n) (list_any t ns) (listed q m t ns f e)
    ] on

active_listed : (s : Setting) (h : History) (w r : ℕ) → worker_of s r ≡ Some w → is_active h r ≡ true → list_any (λ n. n.worker == w && is_active h n.query) s.needs ≡ true
active_listed s h w r on a =
    let m = worker_is (need_of s r) w on in
    let P : ℕ → Type 0 = λ x. is_active h x ≡ true in
    listed r m.0 (λ n. n.worker == w && is_active h n.query) s.needs m.1
    (both_and (m.0.worker == w) (is_active h m.0.query) (equal_number m.0.worker w (same_some m.0.worker w (sym (ap worker_in m.1) ∙ on))) (subst P (sym (found_query r m.0 s.needs m.1)) a))

one_register : (s : Setting) (h : History) (w q : ℕ) → MayRegister s h w q → OneActiveAWorker s h → OneActiveAWorker s (Register w q ∷ h)
one_register s h w q may one v a b on_a on_b act_a act_b = step (q == a) (q == b) refl refl act_a act_b
  where
    -- the new query is on w, where none was active
    new : (x y : ℕ) → (q == x) ≡ true → worker_of s x ≡ Some v → worker_of s y ≡ Some v → is_active h y ≡ true → ⊥
    new x y t on_x on_y act =
        let P : ℕ → Type 0 = λ n. worker_of s n ≡ Some v in
        let same : v ≡ w = same_some v w (sym (subst P (sym (same_number q x t)) on_x) ∙ may.on) in
        not_both (list_any (λ n. n.worker == w && is_active h n.query) s.needs) (active_listed s h w y (on_y ∙ ap Some same) act) may.alone

    step : (i j : Bool) → (q == a) ≡ i → (q == b) ≡ j → ((i || is_registered h a) && not (is_stopped h a) && not (is_ended h a)) ≡ true
        → ((j || is_registered h b) && not (is_stopped h b) && not (is_ended h b)) ≡ true → a ≡ b
    step true true t u x y = sym (same_number q a t) ∙ same_number q b u
    step true false t u x y = absurd (new a b t on_a on_b y)
    step false true t u x y = absurd (new b a u on_b on_a x)
    step false false t u x y = one v a b on_a on_b x y

fewer : (s : Setting) (h k : History) → ((q : ℕ) → is_active k q ≡ true → is_active h q ≡ true) → OneActiveAWorker s h → OneActiveAWorker s k
fewer s h k less one w q r on_q on_r a b = one w q r on_q on_r (less q a) (less r b)

one_next : (s : Setting) (h : History) (e : Entry) → Allowed s h e → OneActiveAWorker s h → OneActiveAWorker s (e ∷ h)
one_next s h (Register w q) may one = one_register s h w q may one
one_next s h (Stop w q) may one = fewer s h (Stop w q ∷ h) (λ r a. (active_before_stop (q == r) (is_registered h r) (is_stopped h r) (is_ended h r) a).1) one
one_next s h (Failed w q p why) may one = fewer s h (Failed w q p why ∷ h) (λ r a. (active_before_stop (q == r) (is_registered h r) (is_stopped h r) (is_ended h r) a).1) one
one_next s h (End w q) may one = fewer s h (End w q ∷ h) (λ r a. (active_before_end (q == r) (is_registered h r) (is_stopped h r) (is_ended h r) a).1) one
one_next s h (Plan w q c) may one = one
one_next s h (Evict w c) may one = one
one_next s h (Fill w f p) may one = one
one_next s h (Filled w f p) may one = one
one_next s h (Deliver w q c) may one = one
one_next s h (Release w q c) may one = one

pub one_active : (s : Setting) (h : History) → Legal s h → OneActiveAWorker s h
one_active s [] legal = λ w q r on_q on_r a b. absurd (not_both false a refl)
one_active s (e ∷ h) legal = one_next s h e legal.0 (one_active s h legal.2)

-- So few are active

all_mono : (P Q : Need → Type 0) (ns : List Need) → ((n : Need) → P n → Q n) → AllByRecursion P ns → AllByRecursion Q ns
all_mono P Q [] f all = tt
all_mono P Q (n ∷ ns) f all = (f n all.0, all_mono P Q ns f all.1)

all_both : (P Q R : Need → Type 0) (ns : List Need) → ((n : Need) → P n → Q n → R n) → AllByRecursion P ns → AllByRecursion Q ns → AllByRecursion R ns
all_both P Q R [] f all each = tt
all_both P Q R (n ∷ ns) f all each = (f n all.0 each.0, all_both P Q R ns f all.1 each.1)

-- each need is the one of its query
pub each_found : (ns : List Need) → AreDistinct ns → AllByRecursion (λ (n : Need). find (λ k. k.query == n.query) ns ≡ Some n) ns
each_found [] d = tt
each_found (n ∷ ns) d = (
  ap (λ b. cond b (Some n) (find (λ k. k.query == n.query) ns)) (self_number n.query),
  all_both (λ m. n.query ≢ m.query) (λ m. find (λ k. k.query == m.query) ns ≡ Some m) (λ m. find (λ k. k.query == m.query) (n ∷ ns) ≡ Some m) ns
      (λ m ne e. ap (λ b. cond b (Some n) (find (λ k. k.query == m.query) ns)) (other_number n.query m.query (λ s. ne s)) ∙ e) d.0 (each_found ns d.1),
)

-- active queries are on workers of their own
abbrev Alone : (Need → Bool) → List Need → Type 0
Alone active [] = Unit {0}
Alone active (n ∷ ns) = (active n ≡ true → list_any (λ m. m.worker == n.worker && active m) ns ≡ false) × Alone active ns

no_second : (s : Setting) (h : History) (n : Need) (ns : List Need) → OneActiveAWorker s h → need_of s n.query ≡ Some n → AllByRecursion (λ (m : Need). need_of s m.query ≡ Some m) ns
    → AllByRecursion (λ (m : Need). n.query ≢ m.query) ns → is_active h n.query ≡ true → list_any (λ m. m.worker == n.worker && is_active h m.query) ns ≡ false
no_second s h n [] one at all d a = refl
no_second s h n (m ∷ ns) one at all d a =
    or_off (m.worker == n.worker && is_active h m.query) (list_any (λ k. k.worker == n.worker && is_active h k.query) ns)
    (if_not (m.worker == n.worker && is_active h m.query) (λ t. (let o = and_both (m.worker == n.worker) (is_active h m.query) t in
    d.0 (one n.worker n.query m.query (ap worker_in at) (ap worker_in all.0 ∙ ap Some (same_number m.worker n.worker o.0)) a o.1))))
    (no_second s h n ns one at all.1 d.1 a)

alone : (s : Setting) (h : History) (ns : List Need) → OneActiveAWorker s h → AreDistinct ns → AllByRecursion (λ (m : Need). need_of s m.query ≡ Some m) ns → Alone (λ n. is_active h n.query) ns
alone s h [] one d all = tt
alone s h (n ∷ ns) one d all = (no_second s h n ns one all.0 all.1 d.0, alone s h ns one d.1 all.1)

count_alone : (active : Need → Bool) (k : ℕ) (ns : List Need) → Alone active ns → AllByRecursion (λ (n : Need). n.worker < k) ns → count_among active ns ≤ count_below (λ w. list_any (λ m. m.worker == w && active m) ns) k
count_alone active k [] a on = omega arith
count_alone active k (n ∷ ns) a on = step (active n) refl (count_alone active k ns a.1 on.1)
  where
    step : (b : Bool) → active n ≡ b → count_among active ns ≤ count_below (λ w. list_any (λ m. m.worker == w && active m) ns) k
        → (if b then count_among active ns + 1 else count_among active ns) ≤ count_below (λ w. (n.worker == w && b) || list_any (λ m. m.worker == w && active m) ns) k
    step true e le = omega (
      arith,
      le,
      count_more (λ w. list_any (λ m. m.worker == w && active m) ns) n.worker k on.0 (a.0 e),
      count_same (λ w. (n.worker == w && true) || list_any (λ m. m.worker == w && active m) ns) (λ w. (n.worker == w) || list_any (λ m. m.worker == w && active m) ns) k
          (λ w. ap (λ b. b || list_any (λ m. m.worker == w && active m) ns) (and_true (n.worker == w))),
    )
    step false e le = omega (
      arith,
      le,
      count_same (λ w. (n.worker == w && false) || list_any (λ m. m.worker == w && active m) ns) (λ w. list_any (λ m. m.worker == w && active m) ns) k
          (λ w. ap (λ b. b || list_any (λ m. m.worker == w && active m) ns) (and_false (n.worker == w))),
    )

pub few_active : (s : Setting) (h : History) → IsSetting s → Legal s h → FewAreActive s h
few_active s h m legal =
    let one = one_active s h legal in
    let by_workers = count_alone (λ n. is_active h n.query) s.workers s.needs (alone s h s.needs one m.distinct (each_found s.needs m.distinct)) (all_mono (IsNeed s) (λ n. n.worker < s.workers) s.needs (λ n i. i.worker) m.needs) in
    omega (arith, by_workers, below_within (λ w. list_any (λ n. n.worker == w && is_active h n.query) s.needs) s.workers)
