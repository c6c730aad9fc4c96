-- Each fair run of the rules ends, and is whole at its end.
use Rattle.std.proofs.Common.{◌≡◌, ◌<◌, ◌+◌, ◌-◌, ◌∷◌, [], ◌==◌, ◌||◌, ◌⊎◌, cond, ℕ, zero, suc, true, false, List, length, find, Some, nat_lt, sym, ◌∙◌, ap, subst, arith, inl, inr}
use Rattle.std.specs.List.{AllByRecursion, list_any}
use Rattle.scan_story.specs.declared.entry.Entry.{Entry}
use Rattle.scan_story.specs.declared.entry.Entry.TheVariants.{Deliver, End, Evict, Failed, Fill, Filled, Plan, Register, Release, Stop}
use Rattle.scan_story.specs.declared.setting.Need.{Need}
use Rattle.scan_story.specs.declared.setting.Setting.{Setting}
use Rattle.scan_story.specs.declared.view.Hold.{Hold}
use Rattle.scan_story.specs.declared.view.Load.{Load}
use Rattle.scan_story.specs.Counting.{count_among}
use Rattle.scan_story.specs.Legal.{Legal}
use Rattle.scan_story.specs.Makers.{maker_of}
use Rattle.scan_story.specs.MayFollow.{Allowed, IsLoadOf, MayPlan, MayRegister}
use Rattle.scan_story.specs.Numbers.{available}
use Rattle.scan_story.specs.Setting.{HasRoom, IsSetting, asks_for, need_of, worker_of}
use Rattle.scan_story.specs.Views.{History, delivers, is_active, is_ended, is_registered, is_stopped, is_wholly_framed, needs_chunk, registers}
use Rattle.scan_story.specs.Whole.{IsWhole}
use Rattle.story_laws.specs.Bounds.{capacity_for}
use Rattle.story_laws.specs.Every.{MayCome, OfEveryLegal}
use Rattle.story_laws.proofs.Active.{active_parts}
use Rattle.story_laws.proofs.Bools.{and_both, either, none_some, not_both, same_some}
use Rattle.story_laws.proofs.Grouped.{asking_need, worker_below, worker_is}
use Rattle.story_laws.proofs.Laws.{holders_are_workers, is_short, loads_are_proper}
use Rattle.story_laws.proofs.Proper.{target_parts}
use Rattle.story_laws.proofs.Sums.{among_none, found_query}
use Rattle.story_laws.proofs.Worth.{need_parts}
use Rattle.story_ends.specs.Ending.{Ends, FairRunsEnd, IsFair, IsRun, IsSchedule, RunsAll, SchedulesEnd, WholeIsOver, Writes}
use Rattle.story_ends.specs.Going.{MayGoOn}
use Rattle.story_ends.proofs.Steps.{somebody_goes_on}

-- Nothing follows a whole history

found_all : (P : Need → Type 0) (q : ℕ) (m : Need) (ns : List Need) → AllByRecursion P ns
    → find (λ n. n.query == q) ns ≡ Some m → P m
found_all P q m [] all e = absurd (none_some m e)
found_all P q m (n ∷ ns) all e = elim (n.query == q) as (λ t. cond t (Some n) (find (λ k. k.query == q) ns) ≡ Some m → P m) [
  | true ↦ λ i. subst P (same_some n m i) all.0
  | false ↦ λ i. found_all P q m ns all.1 i
] e

none_active : (s : Setting) (h : History) (q : ℕ) (m : Need) → IsWhole s h → need_of s q ≡ Some m → is_active h q ≡ true
    → ⊥
none_active s h q m whole on a =
    let P : ℕ → Type 0 = λ x. (is_ended h x || is_stopped h x) ≡ true in
    let over : P q =
    subst P (found_query q m s.needs on)
    (found_all (λ n. (is_ended h n.query || is_stopped h n.query) ≡ true) q m s.needs whole.finished on) in
    let p = active_parts (is_registered h q) (is_stopped h q) (is_ended h q) a in
    either (is_ended h q) (is_stopped h q) over (λ e. not_both (is_ended h q) e p.2)
    (λ e. not_both (is_stopped h q) e p.1)

none_on : (s : Setting) (h : History) (q w : ℕ) → IsWhole s h → worker_of s q ≡ Some w → is_active h q ≡ true → ⊥
none_on s h q w whole on a = let n = worker_is (need_of s q) w on in none_active s h q n.0 whole n.1 a

none_new : (s : Setting) (h : History) (q w : ℕ) → IsWhole s h → MayRegister s h w q → ⊥
none_new s h q w whole may =
    let n = worker_is (need_of s q) w may.on in
    let P : ℕ → Type 0 = λ x. count_among (registers x) h ≡ 1 in
    let one : P q =
    subst P (found_query q n.0 s.needs n.1)
    (found_all (λ k. count_among (registers k.query) h ≡ 1) q n.0 s.needs whole.registered n.1) in
    omega (arith, one, among_none (registers q) h may.first)

none_planned : (s : Setting) (h : History) (w q c : ℕ) → IsWhole s h → MayPlan s h w q c → ⊥
none_planned s h w q c whole may =
    let a = (and_both (is_active h q) (nat_lt (available s h q) 2) may.starved).0 in
    let needs = (target_parts (nat_lt c s.chunks) (needs_chunk s h q c) (is_wholly_framed s h q c) may.target).1 in
    let n =
    asking_need (need_of s q) c
    (need_parts (asks_for s q c) (is_stopped h q) (is_ended h q) (list_any (delivers q c) h) needs).0 in
    none_active s h q n.0 whole n.1 a

none_loads : (s : Setting) (h : History) (w : ℕ) (l : Load) → IsWhole s h → IsLoadOf s h w l → ⊥
none_loads s h w l whole is = none_some l (sym whole.none_underway ∙ is.underway)

over_by : (s : Setting) (h : History) → IsSetting s → HasRoom s → Legal s h → IsWhole s h → (e : Entry) → Allowed s h e
    → ⊥
over_by s h m room legal whole (Register w q) may = none_new s h q w whole may
over_by s h m room legal whole (Plan w q c) may = none_planned s h w q c whole may
over_by s h m room legal whole (Evict w c) may = none_loads s h w may.load whole may.is_load
over_by s h m room legal whole (Fill w f p) may = none_loads s h w may.load whole may.is_load
over_by s h m room legal whole (Filled w f p) may = none_loads s h w may.load whole may.is_load
over_by s h m room legal whole (Failed w q p why) may = none_loads s h w may.load whole may.is_load
over_by s h m room legal whole (Deliver w q c) may = none_on s h q w whole may.on.on may.on.active
over_by s h m room legal whole (Release w q c) may =
    let o : Hold = record { query = q; chunk = c } in
    none_some o (sym (whole.none_held w (holders_are_workers s h m room legal w o may).worker) ∙ may)
over_by s h m room legal whole (Stop w q) may = none_on s h q w whole may.on.on may.on.active
over_by s h m room legal whole (End w q) may = none_on s h q w whole may.on.on may.on.active

pub whole_is_over : OfEveryLegal WholeIsOver
whole_is_over s h m room legal whole e may = over_by s h m room legal whole e may.allowed

-- Who writes an entry is a worker

load_worker : (s : Setting) (h : History) (w : ℕ) (l : Load) → IsSetting s → HasRoom s → Legal s h → IsLoadOf s h w l
    → w < s.workers
load_worker s h w l m room legal is =
    subst (λ v. v < s.workers) is.by_worker (loads_are_proper s h m room legal l is.underway).worker

maker_below : (s : Setting) (h : History) → IsSetting s → HasRoom s → Legal s h → (e : Entry) → Allowed s h e
    → maker_of e < s.workers
maker_below s h m room legal (Register w q) may = worker_below s q w m may.on
maker_below s h m room legal (Plan w q c) may = may.worker
maker_below s h m room legal (Evict w c) may = load_worker s h w may.load m room legal may.is_load
maker_below s h m room legal (Fill w f p) may = load_worker s h w may.load m room legal may.is_load
maker_below s h m room legal (Filled w f p) may = load_worker s h w may.load m room legal may.is_load
maker_below s h m room legal (Failed w q p why) may = load_worker s h w may.load m room legal may.is_load
maker_below s h m room legal (Deliver w q c) may = worker_below s q w m may.on.on
maker_below s h m room legal (Release w q c) may =
    (holders_are_workers s h m room legal w (record { query = q; chunk = c }) may).worker
maker_below s h m room legal (Stop w q) may = worker_below s q w m may.on.on
maker_below s h m room legal (End w q) may = worker_below s q w m may.on.on

-- Runs

run_legal : (s : Setting) (at : ℕ → History) → IsRun s at → (n : ℕ) → Legal s (at n)
run_legal s at run zero = subst (Legal s) (sym run.begins) tt
run_legal s at run (suc n) = elim (run.steps n) [
  | inl same ↦ subst (Legal s) (sym (next n ∙ same)) (run_legal s at run n)
  | inr x ↦ subst (Legal s) (sym (next n ∙ x.1)) (x.2.allowed, x.2.chosen, run_legal s at run n)
]
  where
    next : (n : ℕ) → at (suc n) ≡ at (n + 1)
    next n = ap at (omega arith)

-- a whole history stays
stays : (s : Setting) (at : ℕ → History) → IsSetting s → HasRoom s → IsRun s at → (n : ℕ) → IsWhole s (at n) → (k : ℕ)
    → at (n + k) ≡ at n
stays s at m room run n whole zero = ap at (omega arith)
stays s at m room run n whole (suc k) = next ∙ step (stays s at m room run n whole k) (run.steps (n + k))
  where
    next : at (n + suc k) ≡ at (n + k + 1)
    next = ap at (omega arith)

    step : at (n + k) ≡ at n → (at (n + k + 1) ≡ at (n + k)) ⊎ Writes s (at (n + k)) (at (n + k + 1))
        → at (n + k + 1) ≡ at n
    step before (inl same) = same ∙ before
    step before (inr x) =
        absurd
        (whole_is_over s (at (n + k)) m room (run_legal s at run (n + k)) (subst (IsWhole s) (sym before) whole) x.0 x.2)

ends_from : (s : Setting) (at : ℕ → History) → IsSetting s → HasRoom s → IsRun s at → (n : ℕ) → IsWhole s (at n)
    → Ends s at
ends_from s at m room run n whole = record {
  time = n;
  whole = whole;
  stays = λ k le. ap at (omega (arith, le)) ∙ stays s at m room run n whole (k - n);
}

-- at most so many entries may still come
fair_from : (s : Setting) (at : ℕ → History) → IsSetting s → HasRoom s → IsRun s at → IsFair s at → (left n : ℕ)
    → capacity_for s < length (at n) + left → Ends s at
fair_from s at m room run fair zero n lt =
    let le = is_short s (at n) m room (run_legal s at run n) in absurd (omega (arith, lt, le))
fair_from s at m room run fair (suc left) n lt = elim (somebody_goes_on s (at n) m room (run_legal s at run n)) [
  | inl whole ↦ ends_from s at m room run n whole
  | inr on ↦ (let later = fair n on in fair_from s at m room run fair left later.0 (omega (arith, lt, later.1)))
]

pub fair_runs_end : FairRunsEnd
fair_runs_end s at m room run fair = fair_from s at m room run fair (capacity_for s + 1) 0 (omega arith)

-- Schedules

is_run : (s : Setting) (who : ℕ → ℕ) (at : ℕ → History) → IsSchedule s who at → IsRun s at
is_run s who at plan = record {
  begins = plan.begins;
  steps = λ n. elim (plan.steps n) [
    | inl same ↦ inl same.0
    | inr x ↦ inr x
  ];
}

-- later the history is the same, or longer
later : (s : Setting) (at : ℕ → History) → IsRun s at → (n k : ℕ)
    → (at (n + k) ≡ at n) ⊎ (length (at n) < length (at (n + k)))
later s at run n zero = inl (ap at (omega arith))
later s at run n (suc k) = elim (step (later s at run n k) (run.steps (n + k))) [
  | inl same ↦ inl (next ∙ same)
  | inr lt ↦ inr (let e = ap length next in omega (arith, e, lt))
]
  where
    next : at (n + suc k) ≡ at (n + k + 1)
    next = ap at (omega arith)

    step : (at (n + k) ≡ at n) ⊎ (length (at n) < length (at (n + k)))
        → (at (n + k + 1) ≡ at (n + k)) ⊎ Writes s (at (n + k)) (at (n + k + 1))
        → (at (n + k + 1) ≡ at n) ⊎ (length (at n) < length (at (n + k + 1)))
    step (inl same) (inl still) = inl (still ∙ same)
    step (inl same) (inr x) = inr (let a = ap length same in let b = ap length x.1 in omega (arith, a, b))
    step (inr lt) (inl still) = inr (let b = ap length still in omega (arith, lt, b))
    step (inr lt) (inr x) = inr (let b = ap length x.1 in omega (arith, lt, b))

is_fair : (s : Setting) (who : ℕ → ℕ) (at : ℕ → History) → IsSetting s → HasRoom s → IsSchedule s who at → RunsAll s who
    → IsFair s at
is_fair s who at m room plan all n on =
    let run = is_run s who at plan in
    let w = maker_of on.entry in
    let t = all n w (maker_below s (at n) m room (run_legal s at run n) on.entry on.may.allowed) in
    let k = t.0 - n in
    let is : n + k ≡ t.0 = omega (arith, t.1) in
    by_later t.0 t.2 (subst (λ x. (at x ≡ at n) ⊎ (length (at n) < length (at x))) is (later s at run n k))
    (plan.steps t.0)
  where
    by_later : (t : ℕ) → who t ≡ maker_of on.entry → (at t ≡ at n) ⊎ (length (at n) < length (at t))
        → ((at (t + 1) ≡ at t) × (MayGoOn s (at t) (who t) → ⊥)) ⊎ Writes s (at t) (at (t + 1))
        → (m : ℕ) × (length (at n) < length (at m))
    by_later t is (inr lt) step = (t, lt)
    by_later t is (inl same) (inl idle) =
        absurd (idle.1 (record {
          entry = on.entry;
          by_worker = sym is;
          serves = on.serves;
          may = subst (λ h. MayCome s h on.entry) (sym same) on.may;
        }))
    by_later t is (inl same) (inr x) = (t + 1, (let a = ap length same in let b = ap length x.1 in omega (arith, a, b)))

pub schedules_end : SchedulesEnd
schedules_end s who at m room plan all =
    fair_runs_end s at m room (is_run s who at plan) (is_fair s who at m room plan all)
