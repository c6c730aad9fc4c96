-- A worker's scans, one after another.
use Rattle.std.proofs.Common.{◌≡◌, ◌≢◌, ◌==◌, ◌<◌, ◌≤◌, ◌+◌, ◌++◌, ◌∷◌, [], ℕ, Bool, true, false, List, Some, Result, take, drop, get_or, length, if◌then◌else◌, refl, sym, ap, ◌∙◌, subst}
use Rattle.std.specs.List.{AllByRecursion}
use Rattle.std.specs.VecDeque.{deque_capacity, deque_len}
use Rattle.std.proofs.lemmas.List.{append-nil, drop_more, map-append, take-append-drop, take_more}
use Rattle.std.proofs.lemmas.List.Elements.{All-take, filter-append, recursion_from_All}
use Rattle.atomic_table.specs.Seated.{TableId}
use Rattle.scan_story.specs.declared.cause.Cause.{Cause}
use Rattle.scan_story.specs.declared.entry.Entry.{Entry}
use Rattle.scan_story.specs.declared.origin.Start.{Start}
use Rattle.scan_story.specs.declared.setting.Setting.{Setting}
use Rattle.scan_story.specs.Counting.{has}
use Rattle.scan_story.specs.Legal.{Legal}
use Rattle.scan_story.specs.Makers.{entries_by}
use Rattle.scan_story.specs.MayFollow.{IsIdle, MayRegister}
use Rattle.scan_story.specs.Setting.{IsStart, worker_of}
use Rattle.scan_story.specs.Views.{past}
use Rattle.story_laws.specs.Lists.{NoneTwice}
use Rattle.story_laws.specs.Queries.{chunks_delivered}
use Rattle.story_laws.proofs.Bools.{equal_number, if_not, not_both, or_false, or_off, same_number}
use Rattle.baton.specs.Passes.{PassView}
use Rattle.baton.proofs.Zips.{zip_push}
use Rattle.frame_pool.specs.Berths.{PoolView}
use Rattle.frame_pool.specs.Frames.{Told}
use Rattle.piece_format.specs.Shape.{TableShape}
use Rattle.query_gather.specs.declared.partial.Partial.{Partial}
use Rattle.cscan.specs.declared.station.Station.{Station}
use Rattle.cscan.specs.Scans.{IsOver}
use Rattle.cscan.specs.Stations.{Waits}
use Rattle.batch_ends.specs.Registering.{registered}
use Rattle.batch_ends.specs.declared.job.Job.{Job}
use Rattle.batch_ends.specs.Came.{CameFor}
use Rattle.batch_ends.specs.Jobs.{jobs_on, numbers_of}
use Rattle.batch_run.specs.Jobs.{AreJobs, IsJob}
use Rattle.batch_ends.specs.Lists.{CameOfAll}
use Rattle.batch_run.specs.declared.worker.Worker.{Worker}
use Rattle.batch_run.specs.Workers.{HasRun, Ran, Rests}
use Rattle.batch_run.proofs.Resting.{may_register}
use Rattle.batch_run.proofs.Coming.{came_later}
use Rattle.batch_run.proofs.Registered.{registered-append}

-- Jobs

numbers-append : (xs ys : List Job) → numbers_of (xs ++ ys) ≡ numbers_of xs ++ numbers_of ys
numbers-append xs ys = map-append (λ (j : Job). j.number) xs ys

not_later : (n : ℕ) (j : Job) (xs ys : List Job) → has (numbers_of (xs ++ j ∷ ys)) n ≡ false → (j.number == n) ≡ false
not_later n j [] ys none = (or_false (j.number == n) (has (numbers_of ys) n) none).0
not_later n j (x ∷ xs) ys none = not_later n j xs ys (or_false (x.number == n) (has (numbers_of (xs ++ j ∷ ys)) n) none).1

-- a job's number is none of those before it
none_earlier : (j : Job) (xs ys : List Job) → NoneTwice (numbers_of (xs ++ j ∷ ys)) → has (numbers_of xs) j.number ≡ false
none_earlier j [] ys once = refl
none_earlier j (x ∷ xs) ys once =
    or_off (x.number == j.number) (has (numbers_of xs) j.number)
    (if_not (x.number == j.number) (λ t. not_both (j.number == x.number) (equal_number j.number x.number (sym (same_number x.number j.number t))) (not_later x.number j xs ys once.0)))
    (none_earlier j xs ys once.1)

fewer_numbers : (n w : ℕ) (xs : List Job) → has (numbers_of xs) n ≡ false → has (numbers_of (jobs_on w xs)) n ≡ false
fewer_numbers n w [] none = refl
fewer_numbers n w (x ∷ xs) none = step (or_false (x.number == n) (has (numbers_of xs) n) none).0 (fewer_numbers n w xs (or_false (x.number == n) (has (numbers_of xs) n) none).1) (x.worker == w)
  where
    step : (x.number == n) ≡ false → has (numbers_of (jobs_on w xs)) n ≡ false → (b : Bool) → has (numbers_of (if b then x ∷ jobs_on w xs else jobs_on w xs)) n ≡ false
    step here later true = or_off (x.number == n) (has (numbers_of (jobs_on w xs)) n) here later
    step here later false = later

module _ (s : Setting) (z : TableShape) where
  -- the queries of these jobs are the worker's
  abbrev pub AreOn : ℕ → List Job → Type 0
  AreOn w js = AllByRecursion (λ (j : Job). worker_of s j.number ≡ Some w) js

  pub all_on : (w : ℕ) (xs : List Job) → AllByRecursion (IsJob s z) xs → AreOn w (jobs_on w xs)
  all_on w [] each = tt
  all_on w (x ∷ xs) each = step each.0.on (all_on w xs each.1) (x.worker == w) refl
    where
      step : worker_of s x.number ≡ Some x.worker → AreOn w (jobs_on w xs) → (b : Bool) → (x.worker == w) ≡ b → AreOn w (if b then x ∷ jobs_on w xs else jobs_on w xs)
      step on later true is = (on ∙ ap Some (same_number x.worker w is), later)
      step on later false is = later

  module _ (js : List Job) (jobs : AreJobs s z js) (i : ℕ) (low : i < length js) where
    -- a job is new to the worker, whose earlier jobs are on it
    pub new_job : (w : ℕ) (j : Job) → j ≡ get_or js i j → has (numbers_of (jobs_on w (take i js))) j.number ≡ false
    new_job w j is =
        let split : js ≡ take i js ++ j ∷ drop (i + 1) js = sym (take-append-drop i js) ∙ ap (λ (l : List Job). take i js ++ l) (drop_more js i j low ∙ ap (λ (k : Job). k ∷ drop (i + 1) js) (sym is)) in
        fewer_numbers j.number w (take i js) (none_earlier j (take i js) (drop (i + 1) js) (subst (λ (l : List Job). NoneTwice (numbers_of l)) split jobs.apart))

    pub earlier_on : (w : ℕ) → AreOn w (jobs_on w (take i js))
    earlier_on w = all_on w (take i js) (recursion_from_All (IsJob s z) (take i js) (All-take (IsJob s z) i js jobs.each))

-- the jobs of a worker, with one job more
more_jobs : (w i : ℕ) (js : List Job) (j : Job) → i < length js → j ≡ get_or js i j → jobs_on w (take (i + 1) js) ≡ jobs_on w (take i js) ++ jobs_on w (j ∷ [])
more_jobs w i js j low is =
    ap (jobs_on w) (take_more js i j low ∙ ap (λ (k : Job). take i js ++ k ∷ []) (sym is)) ∙ filter-append (λ (k : Job). k.worker == w) (take i js) (j ∷ [])

pub one_more_job : (w i : ℕ) (js : List Job) (j : Job) → i < length js → j ≡ get_or js i j → j.worker ≡ w → jobs_on w (take (i + 1) js) ≡ jobs_on w (take i js) ++ j ∷ []
one_more_job w i js j low is own =
    let here : (j.worker == w) ≡ true = equal_number j.worker w own in
    more_jobs w i js j low is ∙ ap (λ (b : Bool). jobs_on w (take i js) ++ (if b then j ∷ [] else [])) here

pub no_more_job : (w i : ℕ) (js : List Job) (j : Job) → i < length js → j ≡ get_or js i j → j.worker ≢ w → jobs_on w (take (i + 1) js) ≡ jobs_on w (take i js)
no_more_job w i js j low is other =
    let here : (j.worker == w) ≡ false = if_not (j.worker == w) (λ t. other (same_number j.worker w t)) in
    more_jobs w i js j low is ∙ (ap (λ (b : Bool). jobs_on w (take i js) ++ (if b then j ∷ [] else [])) here ∙ append-nil (jobs_on w (take i js)))

-- After a scan

module _ {S C P D : Type 0} where
  pub rests_after : (o : Start) (id : TableId) (pool : PoolView) (q : ℕ) (s : Station S C P D) → IsOver o id pool q s → Rests o s.pass
  rests_after o id pool q s over = record { own = ap (λ (n : ℕ). entries_by n s.pass.seen) over.seated.0.1 ∙ over.seated.0.4; legal = over.rests.legal; idle = subst (λ (w : ℕ). IsIdle o.setting (past s.pass.seen) w) (sym over.seated.0.1) over.rests.idle }

pub registered_more : (js : List Job) (j : Job) (p r : PassView) → Ran j.number p r → registered p.mine ≡ numbers_of js → registered r.mine ≡ numbers_of (js ++ j ∷ [])
registered_more js j p r ran is =
    ap registered ran.went.mine ∙ (registered-append p.mine ran.added ∙ (ap (λ (l : List ℕ). l ++ registered ran.added) is ∙ (ap (λ (l : List ℕ). numbers_of js ++ l) ran.registers ∙ sym (numbers-append js (j ∷ [])))))

module _ (o : Start) (told : Told) (z : TableShape) (id : TableId) (w q : ℕ) (p r : PassView) (was : Waits id o w p) (waits : Waits id o w r) (legal : Legal o.setting (past r.seen)) (ran : Ran q p r) where
  -- what came of earlier jobs
  came_all : (js : List Job) (rs : List (Result Partial Cause)) → AreOn o.setting z w js → has (numbers_of js) q ≡ false → CameOfAll o told z p.seen js rs → CameOfAll o told z r.seen js rs
  came_all [] [] on new came = tt
  came_all [] (x ∷ rs) on new came = absurd came
  came_all (j ∷ js) [] on new came = absurd came
  came_all (j ∷ js) (x ∷ rs) on new came =
      let parts = or_false (j.number == q) (has (numbers_of js) q) new in
      let other : j.number ≢ q = λ e. not_both (j.number == q) (equal_number j.number q e) parts.0 in
      let same : chunks_delivered (entries_by w r.seen) j.number ≡ chunks_delivered (entries_by w p.seen) j.number =
      ap (λ (l : List Entry). chunks_delivered l j.number) waits.4 ∙ (ran.others j.number other ∙ ap (λ (l : List Entry). chunks_delivered l j.number) (sym was.4)) in
      (came_later o told z w j.number j.plan.now x p.seen r.seen on.0 legal ran.went.seen same came.0, came_all js rs on.1 parts.1 came.1)

-- and of one more
pub came_more : (o : Start) (told : Told) (z : TableShape) (id : TableId) (w : ℕ) (js : List Job) (rs : List (Result Partial Cause)) (j : Job) (x : Result Partial Cause) (p r : PassView)
    → Waits id o w p → Waits id o w r → Legal o.setting (past r.seen) → Ran j.number p r → AreOn o.setting z w js → has (numbers_of js) j.number ≡ false
    → CameOfAll o told z p.seen js rs → CameFor o told z r.seen j.number j.plan.now x → CameOfAll o told z r.seen (js ++ j ∷ []) (rs ++ x ∷ [])
came_more o told z id w js rs j x p r was waits legal ran on new came here =
    zip_push (λ (k : Job) (y : Result Partial Cause). CameFor o told z r.seen k.number k.plan.now y) js rs j x (came_all o told z id w j.number p r was waits legal ran js rs on new came) here

-- How far a worker is

module _ {S C P D : Type 0} (o : Start) (told : Told) (z : TableShape) (id : TableId) (pool : PoolView) (js : List Job) where
  -- it has run those of the first jobs that are on it
  pub record IsSoFar (places : ℕ) (old w : Worker S C P D) : Type 0 where
    pub run : HasRun o told z id pool (jobs_on old.number (take places js)) w
    pub number : w.number ≡ old.number
    pub few : deque_len w.results ≤ places
    pub room : length js ≤ deque_capacity w.results

-- The next job

module _ {S C P D : Type 0} (o : Start) (told : Told) (z : TableShape) (id : TableId) (pool : PoolView) (js : List Job) (jobs : AreJobs o.setting z js) (i : ℕ) (low : i < length js) (j : Job) (is : j ≡ get_or js i j) where
  -- the worker's own number, at each place that has it
  waits_as : (n : ℕ) (w : Worker S C P D) (before : List Job) → HasRun o told z id pool before w → w.number ≡ n → Waits id o n w.station.pass
  waits_as n w before run number = subst (λ (k : ℕ). Waits id o k w.station.pass) (run.number ∙ number) run.seated.0

  pub may_next : (n : ℕ) (w : Worker S C P D) → IsStart o → HasRun o told z id pool (jobs_on n (take i js)) w → w.number ≡ n → j.worker ≡ w.number
      → MayRegister o.setting (past w.station.pass.seen) w.station.number j.number
  may_next n w start run number own =
      let p = w.station.pass in
      let idle : IsIdle o.setting (past p.seen) n = subst (λ (k : ℕ). IsIdle o.setting (past p.seen) k) (run.seated.0.1 ∙ (run.number ∙ number)) run.rests.idle in
      let on : worker_of o.setting j.number ≡ Some n = (subst (IsJob o.setting z) (sym is) (jobs.each i j low)).on ∙ ap Some (own ∙ number) in
      subst (λ (k : ℕ). MayRegister o.setting (past p.seen) k j.number) (sym (run.number ∙ number))
      (may_register o told z id n j.number (jobs_on n (take i js)) w.results.items p start (waits_as n w (jobs_on n (take i js)) run number) run.rests.legal idle run.registered run.came on
      (new_job o.setting z js jobs i low n j is))

  -- the worker has run its job
  pub run_next : (n : ℕ) (w v : Worker S C P D) (x : Result Partial Cause) → HasRun o told z id pool (jobs_on n (take i js)) w → w.number ≡ n → j.worker ≡ w.number → v.number ≡ w.number
      → v.station.number ≡ w.station.number → v.shape.now ≡ w.shape.now → IsOver o id pool j.number v.station → Ran j.number w.station.pass v.station.pass → CameFor o told z v.station.pass.seen j.number j.plan.now x
      → v.results.items ≡ w.results.items ++ x ∷ [] → HasRun o told z id pool (jobs_on n (take (i + 1) js)) v
  run_next n w v x run number own same station shape over ran came pushed =
      let before = jobs_on n (take i js) in
      let p = w.station.pass in
      let r = v.station.pass in
      let all : jobs_on n (take (i + 1) js) ≡ before ++ j ∷ [] = one_more_job n i js j low is (own ∙ number) in
      let waits : Waits id o n r = subst (λ (k : ℕ). Waits id o k r) (station ∙ (run.number ∙ number)) over.seated.0 in
      let more = came_more o told z id n before w.results.items j x p r (waits_as n w before run number) waits over.rests.legal ran (earlier_on o.setting z js jobs i low n) (new_job o.setting z js jobs i low n j is) run.came came in
      record {
        seated = over.seated;
        number = station ∙ (run.number ∙ sym same);
        shape = shape ∙ run.shape;
        rests = rests_after o id pool j.number v.station over;
        registered = registered_more before j p r ran run.registered ∙ ap numbers_of (sym all);
        came = subst (λ (l : List Job). CameOfAll o told z r.seen l v.results.items) (sym all) (subst (λ (l : List (Result Partial Cause)). CameOfAll o told z r.seen (before ++ j ∷ []) l) (sym pushed) more);
      }

  -- a job of another worker
  pub run_same : (n : ℕ) (w : Worker S C P D) → HasRun o told z id pool (jobs_on n (take i js)) w → w.number ≡ n → j.worker ≢ w.number → HasRun o told z id pool (jobs_on n (take (i + 1) js)) w
  run_same n w run number other = subst (λ (l : List Job). HasRun o told z id pool l w) (sym (no_more_job n i js j low is (λ e. other (e ∙ sym number)))) run
