-- The end of a batch: what each worker leaves is what came of all jobs, and the story is whole.
use Rattle.std.proofs.Common.{◌≡◌, ◌==◌, ◌||◌, ◌<◌, ◌≤◌, ◌+◌, ◌++◌, ◌∷◌, [], ℕ, zero, suc, Bool, true, false, List, Result, All, map, filter, reverse, get_or, length, min, if◌then◌else◌, add-one, arith, length-append, refl, sym, ap, ◌∙◌, subst, ⊎_elim}
use Rattle.std.specs.List.{AllByRecursion, AllZip}
use Rattle.std.proofs.lemmas.Bool.{cases_lt}
use Rattle.std.proofs.lemmas.List.{get_or_append_left, get_or_push, length-map, map-append}
use Rattle.std.proofs.lemmas.List.Elements.{All-cons, All-head, All-map, All-nil, All-push, All-same, All-tail, recursion_from_All}
use Rattle.std.specs.Global.{Global}
use Rattle.std.specs.declared.collections.VecDeque.{VecDeque}
use Rattle.atomic_table.specs.Seated.{TableId}
use Rattle.scan_story.specs.declared.cause.Cause.{Cause}
use Rattle.scan_story.specs.declared.entry.Entry.{Entry}
use Rattle.scan_story.specs.declared.origin.Start.{Start}
use Rattle.scan_story.specs.declared.setting.Need.{Need}
use Rattle.scan_story.specs.Counting.{count_among, has}
use Rattle.scan_story.specs.Legal.{Legal}
use Rattle.scan_story.specs.Makers.{StartsWith, entries_by}
use Rattle.scan_story.specs.MayFollow.{IsIdle}
use Rattle.scan_story.specs.Numbers.{available}
use Rattle.scan_story.specs.Setting.{IsStart}
use Rattle.scan_story.specs.Views.{History, is_active, is_ended, is_stopped, past, registers}
use Rattle.scan_story.specs.Whole.{IsWhole}
use Rattle.story_laws.specs.Bounds.{LoadsArePaid, two_of_each}
use Rattle.story_laws.specs.Lists.{sum_among}
use Rattle.story_laws.specs.Queries.{chunks_delivered}
use Rattle.story_laws.proofs.Grouped.{worker_below}
use Rattle.story_laws.proofs.Bools.{equal_number, if_other, or_left, or_right}
use Rattle.baton.specs.Passes.{AgreesWith, PassView, new_pass, new_passes}
use Rattle.frame_pool.specs.Berths.{PoolView}
use Rattle.frame_pool.specs.Frames.{Told}
use Rattle.piece_format.specs.Shape.{TableShape}
use Rattle.query_gather.specs.declared.partial.Partial.{Partial}
use Rattle.batch_run.proofs.Delivered.{reverse-first}
use Rattle.batch_ends.specs.declared.job.Job.{Job}
use Rattle.batch_run.specs.declared.worker.Worker.{Worker}
use Rattle.batch_run.specs.declared.crew.Crew.{Crew}
use Rattle.batch_run.specs.declared.seating.Works.{Works}
use Rattle.batch_ends.specs.Came.{CameFor, CameOf}
use Rattle.batch_run.specs.Crews.{AreFresh, passes_of, up_to, workers_of}
use Rattle.batch_run.specs.Works.{HasWorked}
use Rattle.sql_bind.specs.declared.plan.Plan.{Plan}
use Rattle.batch_plan.specs.Scans.{Scan}
use Rattle.batch_ends.specs.Jobs.{IsJobOf, jobs_on, numbers_of}
use Rattle.batch_run.specs.Jobs.{AreJobs, IsJob}
use Rattle.batch_ends.specs.Lists.{AreCounted, AreSorted, CameOfAll, CameOfJob}
use Rattle.batch_ends.specs.Registering.{numbers_on, registered}
use Rattle.batch_ends.specs.Whole.{LoadsAreBounded}
use Rattle.batch_run.specs.Workers.{HasRun, Rests}
use Rattle.batch_run.proofs.Coming.{came_later, came_over, over_inactive}
use Rattle.batch_run.proofs.Endings.{none_underway}
use Rattle.baton.proofs.Zips.{zip_length}
use Rattle.batch_run.proofs.Registered.{registered_by, registered_once}
use Rattle.batch_run.proofs.Serving.{AreOn, all_on}
use Rattle.batch_ends.proofs.Sorting.{map_at}

abbrev pub Queue : Type 0
Queue = VecDeque (Result Partial Cause) Global

-- Lists turned round

pub all_reverse : {A : Type 0} (P : A → Type 0) (xs : List A) → All P xs → All P (reverse xs)
all_reverse {A} P [] all = All-nil P
all_reverse {A} P (x ∷ xs) all = subst (All P) (sym (reverse-first x xs)) (All-push P (reverse xs) x (all_reverse P xs (All-tail P x xs all)) (All-head P x xs all))

pub map_reverse : {A B : Type 0} (f : A → B) (xs : List A) → map f (reverse xs) ≡ reverse (map f xs)
map_reverse f [] = refl
map_reverse f (x ∷ xs) =
    ap (map f) (reverse-first x xs) ∙ (map-append f (reverse xs) (x ∷ []) ∙ (ap (λ l. l ++ f x ∷ []) (map_reverse f xs) ∙ sym (reverse-first (f x) (map f xs))))

pub map_same : {A B : Type 0} (f g : A → B) (xs : List A) → AllByRecursion (λ (x : A). f x ≡ g x) xs → map f xs ≡ map g xs
map_same f g [] all = refl
map_same f g (x ∷ xs) all = ap (λ y. y ∷ map f xs) all.0 ∙ ap (λ l. g x ∷ l) (map_same f g xs all.1)

-- New passes

pub new_rest : (id : TableId) (o : Start) (n : ℕ) → All (Rests o) (new_passes id o [] n)
new_rest id o zero = All-nil (Rests o)
new_rest id o (suc n) =
    All-push (Rests o) (new_passes id o [] n) (new_pass id n o []) (new_rest id o n) (record { own = refl; legal = tt; idle = record { holds_nothing = refl; loads_nothing = refl } })

pub new_numbers : (id : TableId) (o : Start) (n : ℕ) → workers_of (new_passes id o [] n) ≡ up_to n
new_numbers id o zero = refl
new_numbers id o (suc n) = map-append (λ (p : PassView). p.number) (new_passes id o [] n) (new_pass id n o [] ∷ []) ∙ ap (λ (l : List ℕ). l ++ n ∷ []) (new_numbers id o n)

pub new_unwritten : (id : TableId) (o : Start) (n : ℕ) → All (λ (p : PassView). p.mine ≡ []) (new_passes id o [] n)
new_unwritten id o zero = All-nil (λ (p : PassView). p.mine ≡ [])
new_unwritten id o (suc n) = All-push (λ (p : PassView). p.mine ≡ []) (new_passes id o [] n) (new_pass id n o []) (new_unwritten id o n) refl

-- Numbers

pub length_up_to : (n : ℕ) → length (up_to n) ≡ n
length_up_to zero = refl
length_up_to (suc n) = length-append (up_to n) (n ∷ []) ∙ (ap (λ k. k + 1) (length_up_to n) ∙ add-one n)

up_to_at : (n w : ℕ) → w < n → get_or (up_to n) w 0 ≡ w
up_to_at zero w low = absurd (omega (arith, low))
up_to_at (suc n) w low = ⊎_elim
    (λ (less : w < n). get_or_append_left (up_to n) (n ∷ []) 0 w (omega (arith, less, length_up_to n)) ∙ up_to_at n w less)
    (λ (more : n ≤ w).
    let here : w ≡ n = omega (arith, low, more) in
    ap (λ k. get_or (up_to n ++ n ∷ []) k 0) here ∙ (get_or_push (up_to n) n 0 n (length_up_to n) ∙ sym here))
    (cases_lt w n)

module _ {S C P D : Type 0} where
  pub pass_numbers : (ws : List (Worker S C P D)) → All (λ (w : Worker S C P D). w.station.pass.number ≡ w.number) ws
      → workers_of (reverse (map (λ (w : Worker S C P D). w.station.pass) ws)) ≡ reverse (map (λ (w : Worker S C P D). w.number) ws)
  pass_numbers ws all =
      map_reverse (λ (p : PassView). p.number) (map (λ (w : Worker S C P D). w.station.pass) ws) ∙ ap reverse (twice ws (recursion_from_All (λ (w : Worker S C P D). w.station.pass.number ≡ w.number) ws all))
    where
      twice : (vs : List (Worker S C P D)) → AllByRecursion (λ (w : Worker S C P D). w.station.pass.number ≡ w.number) vs
          → map (λ (p : PassView). p.number) (map (λ (w : Worker S C P D). w.station.pass) vs) ≡ map (λ (w : Worker S C P D). w.number) vs
      twice [] each = refl
      twice (v ∷ vs) each = ap (λ (n : ℕ). n ∷ map (λ (p : PassView). p.number) (map (λ (w : Worker S C P D). w.station.pass) vs)) each.0 ∙ ap (λ (l : List ℕ). v.number ∷ l) (twice vs each.1)

  -- the worker of a number, at its place among all in the order of their numbers
  pub record AtPlace (Is : Worker S C P D → Type 0) (vs : List (Worker S C P D)) (w : ℕ) : Type 0 where
    pub worker : Worker S C P D
    pub number : worker.number ≡ w
    pub is : Is worker
    pub there : get_or (map (λ (v : Worker S C P D). v.results.items) vs) w [] ≡ worker.results.items

  pub at_place : (Is : Worker S C P D → Type 0) (vs : List (Worker S C P D)) (n w : ℕ) → map (λ (v : Worker S C P D). v.number) vs ≡ up_to n → w < n → All Is vs → AtPlace Is vs w
  at_place Is [] n w all low each = absurd (omega (arith, low, ap length all, length_up_to n))
  at_place Is (v ∷ vs) n w all low each =
      let inside : w < length (v ∷ vs) = omega (arith, low, ap length all, length_up_to n, length-map (v ∷ vs) (λ (x : Worker S C P D). x.number)) in
      record {
        worker = get_or (v ∷ vs) w v;
        number = sym (map_at (λ (x : Worker S C P D). x.number) (v ∷ vs) w v 0 inside) ∙ (ap (λ (l : List ℕ). get_or l w 0) all ∙ up_to_at n w low);
        is = each w v inside;
        there = map_at (λ (x : Worker S C P D). x.results.items) (v ∷ vs) w v [] inside;
      }

-- What each worker leaves

module _ (o : Start) (told : Told) (z : TableShape) (story : List Entry) (legal : Legal o.setting (past story)) where
  came_still : (js : List Job) (rs : List (Result Partial Cause)) (w : ℕ) (p : PassView) → AreOn o.setting z w js → StartsWith story p.seen → entries_by w story ≡ entries_by w p.seen
      → CameOfAll o told z p.seen js rs → CameOfAll o told z story js rs
  came_still [] [] w p on begins same came = tt
  came_still [] (x ∷ rs) w p on begins same came = absurd came
  came_still (j ∷ js) [] w p on begins same came = absurd came
  came_still (j ∷ js) (x ∷ rs) w p on begins same came = (
    came_later o told z w j.number j.plan.now x p.seen story on.0 legal begins (ap (λ (l : List Entry). chunks_delivered l j.number) same) came.0,
    came_still js rs w p on.1 begins same came.1,
  )

  -- the entries of its number are its own, still
  own_still : (w : ℕ) (p : PassView) → p.number ≡ w → Rests o p → AgreesWith o story p → entries_by w story ≡ entries_by w p.seen
  own_still w p is rests agrees = subst (λ (n : ℕ). entries_by n story ≡ entries_by n p.seen) is (agrees.mine ∙ sym rests.own)

module _ {S C P D : Type 0} (o : Start) (told : Told) (z : TableShape) (id : TableId) (pool : PoolView) (js : List Job) (vs : List (Worker S C P D)) (n : ℕ)
    (all : map (λ (v : Worker S C P D). v.number) vs ≡ up_to n) (run : All (λ (v : Worker S C P D). HasRun o told z id pool (jobs_on v.number js) v) vs) where
  abbrev lists_of : List (List (Result Partial Cause))
  lists_of = map (λ (v : Worker S C P D). v.results.items) vs

  long : length lists_of ≡ n
  long = length-map vs (λ (v : Worker S C P D). v.results.items) ∙ (sym (length-map vs (λ (v : Worker S C P D). v.number)) ∙ (ap length all ∙ length_up_to n))

  pub all_counted : AreCounted js lists_of
  all_counted w less =
      let at = at_place (λ (v : Worker S C P D). HasRun o told z id pool (jobs_on v.number js) v) vs n w all (omega (arith, less, long)) run in
      let v = at.worker in
      ap (λ (k : ℕ). length (jobs_on k js)) (sym at.number) ∙ (zip_length (CameOfJob o told z v.station.pass.seen) (jobs_on v.number js) v.results.items at.is.came ∙ ap length (sym at.there))

  module _ (story : List Entry) (legal : Legal o.setting (past story)) (jobs : AreJobs o.setting z js) (agree : All (λ (v : Worker S C P D). AgreesWith o story v.station.pass) vs) where
    both_facts : All (λ (v : Worker S C P D). HasRun o told z id pool (jobs_on v.number js) v × AgreesWith o story v.station.pass) vs
    both_facts k d low = (run k d low, agree k d low)

    abbrev Leaves : Worker S C P D → Type 0
    Leaves v = HasRun o told z id pool (jobs_on v.number js) v × AgreesWith o story v.station.pass

    number_is : (v : Worker S C P D) → Leaves v → v.station.pass.number ≡ v.number
    number_is v is = is.0.seated.0.1 ∙ is.0.number

    pub all_sorted : AreSorted o told z story js lists_of
    all_sorted w less =
        let at = at_place Leaves vs n w all (omega (arith, less, long)) both_facts in
        let v = at.worker in
        let p = v.station.pass in
        let on = all_on o.setting z v.number js (recursion_from_All (IsJob o.setting z) js jobs.each) in
        let same = own_still o told z story legal v.number p (number_is v at.is) at.is.0.rests at.is.1 in
        let came = came_still o told z story legal (jobs_on v.number js) v.results.items v.number p on at.is.1.seen same at.is.0.came in
        subst (λ (l : List (Result Partial Cause)). CameOfAll o told z story (jobs_on w js) l) (sym at.there)
        (subst (λ (k : ℕ). CameOfAll o told z story (jobs_on k js) v.results.items) at.number came)

    -- a job is among those of its worker
    of_worker : (xs : List Job) → AllByRecursion (λ (j : Job). has (numbers_of (jobs_on j.worker xs)) j.number ≡ true) xs
    of_worker xs = later xs xs (λ j is. is)
      where
        here : (j : Job) (ys : List Job) → has (numbers_of (jobs_on j.worker (j ∷ ys))) j.number ≡ true
        here j ys = ap (λ (b : Bool). has (numbers_of (if b then j ∷ jobs_on j.worker ys else jobs_on j.worker ys)) j.number) (equal_number j.worker j.worker refl)
            ∙ or_left (j.number == j.number) (has (numbers_of (jobs_on j.worker ys)) j.number) (equal_number j.number j.number refl)

        further : (w n : ℕ) (x : Job) (ys : List Job) → has (numbers_of (jobs_on w ys)) n ≡ true → has (numbers_of (jobs_on w (x ∷ ys))) n ≡ true
        further w n x ys is = elim (x.worker == w) as (λ b. has (numbers_of (if b then x ∷ jobs_on w ys else jobs_on w ys)) n ≡ true) [
          | true ↦ or_right (x.number == n) (has (numbers_of (jobs_on w ys)) n) is
          | false ↦ is
        ]

        later : (ys zs : List Job) → ((j : Job) → has (numbers_of (jobs_on j.worker zs)) j.number ≡ true → has (numbers_of (jobs_on j.worker ys)) j.number ≡ true)
            → AllByRecursion (λ (j : Job). has (numbers_of (jobs_on j.worker ys)) j.number ≡ true) zs
        later ys [] on = tt
        later ys (z ∷ zs) on = (on z (here z zs), later ys zs (λ j is. on j (further j.worker j.number z zs is)))

    -- each worker registered its jobs, in their order
    pub registers_jobs : (w : ℕ) → w < n → registered (entries_by w story) ≡ numbers_of (jobs_on w js)
    registers_jobs w low =
        let at = at_place Leaves vs n w all low both_facts in
        let v = at.worker in
        let p = v.station.pass in
        let same = own_still o told z story legal v.number p (number_is v at.is) at.is.0.rests at.is.1 in
        let mine : entries_by w story ≡ p.mine =
        subst (λ (k : ℕ). entries_by k story ≡ p.mine) at.number (same ∙ (ap (λ (k : ℕ). entries_by k p.seen) (sym (number_is v at.is)) ∙ at.is.0.rests.own)) in
        ap registered mine ∙ (at.is.0.registered ∙ ap (λ (k : ℕ). numbers_of (jobs_on k js)) at.number)

    -- each job's query was registered once, and is over
    registered_one : (j : Job) → IsJob o.setting z j → j.worker < n → has (numbers_of (jobs_on j.worker js)) j.number ≡ true → count_among (registers j.number) (past story) ≡ 1
    registered_one j job low among =
        registered_once o.setting j.number (past story) legal
        (sym (registered_by o.setting j.worker j.number job.on story legal) ∙ (ap (λ (l : List ℕ). has l j.number) (registers_jobs j.worker low) ∙ among))

    abbrev IsDone : Job → Type 0
    IsDone j = (count_among (registers j.number) (past story) ≡ 1) × ((is_ended (past story) j.number || is_stopped (past story) j.number) ≡ true)

    done_from : (start : IsStart o) → o.setting.workers ≡ n → (xs : List Job) (rs : List (Result Partial Cause)) → AllByRecursion (IsJob o.setting z) xs
        → AllByRecursion (λ (j : Job). has (numbers_of (jobs_on j.worker js)) j.number ≡ true) xs → CameOfAll o told z story xs rs → AllByRecursion IsDone xs
    done_from start workers [] rs each among came = tt
    done_from start workers (j ∷ xs) [] each among came = absurd came
    done_from start workers (j ∷ xs) (r ∷ rs) each among came =
        let low = worker_below o.setting j.number j.worker start.setting each.0.on in (
          (registered_one j each.0 (omega (arith, low, workers)) among.0, came_over o told z story j.number j.plan.now r came.0),
          done_from start workers xs rs each.1 among.1 came.1,
        )

    pub all_done : IsStart o → o.setting.workers ≡ n → (rs : List (Result Partial Cause)) → CameOfAll o told z story js rs → AllByRecursion IsDone js
    all_done start workers rs came = done_from start workers js rs (recursion_from_All (IsJob o.setting z) js jobs.each) (of_worker js) came

-- The whole story

first_of_both : (P Q : Need → Type 0) (ns : List Need) → AllByRecursion (λ (m : Need). P m × Q m) ns → AllByRecursion P ns
first_of_both P Q [] each = tt
first_of_both P Q (m ∷ ns) each = (each.0.0, first_of_both P Q ns each.1)

second_of_both : (P Q : Need → Type 0) (ns : List Need) → AllByRecursion (λ (m : Need). P m × Q m) ns → AllByRecursion Q ns
second_of_both P Q [] each = tt
second_of_both P Q (m ∷ ns) each = (each.0.1, second_of_both P Q ns each.1)

-- nothing is available to queries that are over
none_available : (f : Need → ℕ) (h : History) (ns : List Need) → AllByRecursion (λ (m : Need). (is_ended h m.query || is_stopped h m.query) ≡ true) ns
    → sum_among (λ m. if is_active h m.query then f m else 0) ns ≡ 0
none_available f h [] over = refl
none_available f h (m ∷ ns) over =
    let here = if_other (is_active h m.query) (f m) 0 (over_inactive h m.query over.0) in
    let rest = none_available f h ns over.1 in
    omega (arith, here, rest)

module _ (o : Start) (story : List Entry) (start : IsStart o) (legal : Legal o.setting (past story))
    (done : AllByRecursion (λ (m : Need). (count_among (registers m.query) (past story) ≡ 1) × ((is_ended (past story) m.query || is_stopped (past story) m.query) ≡ true)) o.setting.needs)
    (idle : (w : ℕ) → w < o.setting.workers → IsIdle o.setting (past story) w) where
  pub is_whole : IsWhole o.setting (past story)
  is_whole = record {
    registered = first_of_both (λ (m : Need). count_among (registers m.query) (past story) ≡ 1) (λ (m : Need). (is_ended (past story) m.query || is_stopped (past story) m.query) ≡ true) o.setting.needs done;
    finished = second_of_both (λ (m : Need). count_among (registers m.query) (past story) ≡ 1) (λ (m : Need). (is_ended (past story) m.query || is_stopped (past story) m.query) ≡ true) o.setting.needs done;
    none_underway = none_underway o (past story) start legal idle;
    none_held = λ w low. (idle w low).holds_nothing;
  }

  pub loads_bounded : LoadsArePaid o.setting (past story) → LoadsAreBounded o.setting (past story)
  loads_bounded paid =
      let none : two_of_each o.setting (past story) ≡ 0 = none_available (λ m. min (available o.setting (past story) m.query) 2) (past story) o.setting.needs is_whole.finished in
      omega (arith, paid, none)

-- From the works to the end

all_unmap : {A B : Type 0} (P : B → Type 0) (f : A → B) (xs : List A) → All P (map f xs) → All (λ (x : A). P (f x)) xs
all_unmap {A} P f [] all = All-nil (λ (x : A). P (f x))
all_unmap {A} P f (x ∷ xs) all = All-cons (λ (y : A). P (f y)) x xs (All-head P (f x) (map f xs) all) (all_unmap P f xs (All-tail P (f x) (map f xs) all))

map_twice : {A B E : Type 0} (f : B → E) (h : A → B) (xs : List A) → map f (map h xs) ≡ map (λ (x : A). f (h x)) xs
map_twice f h [] = refl
map_twice f h (x ∷ xs) = ap (λ l. f (h x) ∷ l) (map_twice f h xs)

module _ {S C P D : Type 0} where
  -- the passes of a crew in which everybody has a station
  all_seated : (c : Crew S C P D) → c.passes.items ≡ [] → passes_of c ≡ map (λ (w : Worker S C P D). w.station.pass) (reverse c.workers.items)
  all_seated c none =
      ap (λ (l : List PassView). l ++ reverse (map (λ (w : Worker S C P D). w.station.pass) c.workers.items)) none ∙ sym (map_reverse (λ (w : Worker S C P D). w.station.pass) c.workers.items)

  seated_numbers : (c : Crew S C P D) → c.passes.items ≡ [] → All (λ (w : Worker S C P D). w.station.pass.number ≡ w.number) c.workers.items
      → workers_of (passes_of c) ≡ reverse (map (λ (w : Worker S C P D). w.number) c.workers.items)
  seated_numbers c none each =
      ap (λ (l : List PassView). workers_of (l ++ reverse (map (λ (w : Worker S C P D). w.station.pass) c.workers.items))) none ∙ pass_numbers c.workers.items each

  pub kept_numbers : (o : Start) (told : Told) (z : TableShape) (n k : ℕ) (js : List Job) (old new : Works S C P D) → old.crew.passes.items ≡ [] → AreFresh old.baton o z n old.crew
      → HasWorked o told z js old new → workers_of (passes_of old.crew) ≡ up_to k → workers_of (passes_of new.crew) ≡ up_to k
  kept_numbers o told z n k js old new none fresh worked all =
      seated_numbers new.crew worked.none_left (λ i d low. (let r = worked.workers i d low in r.seated.0.1 ∙ r.number))
      ∙ (ap reverse worked.numbers
      ∙ (sym (seated_numbers old.crew none (λ i d low. ap (λ (p : PassView). p.number) (fresh.workers i d low).pass)) ∙ all))

  pub kept_rest : (o : Start) (told : Told) (z : TableShape) (js : List Job) (old new : Works S C P D) → HasWorked o told z js old new → All (Rests o) (passes_of new.crew)
  kept_rest o told z js old new worked =
      let ws = new.crew.workers.items in
      All-same (Rests o) (passes_of new.crew) (map (λ (w : Worker S C P D). w.station.pass) (reverse ws)) (all_seated new.crew worked.none_left)
      (All-map (Rests o) (λ (w : Worker S C P D). w.station.pass) (reverse ws)
      (all_reverse (λ (w : Worker S C P D). Rests o w.station.pass) ws (λ i d low. (worked.workers i d low).rests)))

  -- the workers in the order of their numbers
  pub in_turn : (o : Start) (told : Told) (z : TableShape) (k : ℕ) (js : List Job) (old new : Works S C P D) → HasWorked o told z js old new → workers_of (passes_of new.crew) ≡ up_to k
      → map (λ (w : Worker S C P D). w.number) (reverse new.crew.workers.items) ≡ up_to k
  in_turn o told z k js old new worked all =
      map_reverse (λ (w : Worker S C P D). w.number) new.crew.workers.items
      ∙ (sym (seated_numbers new.crew worked.none_left (λ i d low. (let r = worked.workers i d low in r.seated.0.1 ∙ r.number))) ∙ all)

  pub all_run : (o : Start) (told : Told) (z : TableShape) (js : List Job) (old new : Works S C P D) → HasWorked o told z js old new
      → All (λ (w : Worker S C P D). HasRun o told z new.baton new.pool (jobs_on w.number js) w) (reverse new.crew.workers.items)
  all_run o told z js old new worked = all_reverse (λ (w : Worker S C P D). HasRun o told z new.baton new.pool (jobs_on w.number js) w) new.crew.workers.items worked.workers

  pub all_agree : (o : Start) (story : List Entry) (c : Crew S C P D) → c.passes.items ≡ [] → All (AgreesWith o story) (passes_of c)
      → All (λ (w : Worker S C P D). AgreesWith o story w.station.pass) (reverse c.workers.items)
  all_agree o story c none agree =
      all_unmap (AgreesWith o story) (λ (w : Worker S C P D). w.station.pass) (reverse c.workers.items) (subst (All (AgreesWith o story)) (all_seated c none) agree)

  pub their_lists : (ls : List Queue) (ws : List (Worker S C P D)) → ls ≡ reverse (map (λ (w : Worker S C P D). w.results) ws)
      → map (λ (q : Queue). q.items) ls ≡ map (λ (w : Worker S C P D). w.results.items) (reverse ws)
  their_lists ls ws is =
      ap (map (λ (q : Queue). q.items)) (is ∙ sym (map_reverse (λ (w : Worker S C P D). w.results) ws)) ∙ map_twice (λ (q : Queue). q.items) (λ (w : Worker S C P D). w.results) (reverse ws)

-- what came of jobs came of the scans that they are
pub of_scans : (o : Start) (told : Told) (z : TableShape) (story : List Entry) (ks : List Scan) (js : List Job) (rs : List (Result Partial Cause)) → AllZip IsJobOf ks js → CameOfAll o told z story js rs
    → AllZip (CameOf o told z story) ks rs
of_scans o told z story [] [] [] jobs came = tt
of_scans o told z story [] [] (r ∷ rs) jobs came = absurd came
of_scans o told z story [] (j ∷ js) rs jobs came = absurd jobs
of_scans o told z story (k ∷ ks) [] rs jobs came = absurd jobs
of_scans o told z story (k ∷ ks) (j ∷ js) [] jobs came = absurd came
of_scans o told z story (k ∷ ks) (j ∷ js) (r ∷ rs) jobs came = (
  subst (λ (n : ℕ). CameFor o told z story n k.plan r) jobs.0.number (subst (λ (p : Plan). CameFor o told z story j.number p r) jobs.0.plan came.0),
  of_scans o told z story ks js rs jobs.1 came.1,
)

-- the jobs of a worker have the numbers of its scans
pub numbered_on : (w : ℕ) (ks : List Scan) (js : List Job) → AllZip IsJobOf ks js → numbers_of (jobs_on w js) ≡ numbers_on w ks
numbered_on w [] [] jobs = refl
numbered_on w [] (j ∷ js) jobs = absurd jobs
numbered_on w (k ∷ ks) [] jobs = absurd jobs
numbered_on w (k ∷ ks) (j ∷ js) jobs =
    ap (λ (v : ℕ). numbers_of (if v == w then j ∷ jobs_on w js else jobs_on w js)) jobs.0.worker
    ∙ elim (k.worker == w) as (λ b. numbers_of (if b then j ∷ jobs_on w js else jobs_on w js) ≡ map (λ (i : Scan). i.number) (if b then k ∷ filter (λ (i : Scan). i.worker == w) ks else filter (λ (i : Scan). i.worker == w) ks)) [
      | true ↦ ap (λ (n : ℕ). n ∷ numbers_of (jobs_on w js)) jobs.0.number ∙ ap (λ (l : List ℕ). k.number ∷ l) (numbered_on w ks js jobs.1)
      | false ↦ numbered_on w ks js jobs.1
    ]

pub workers_below : (o : Start) (z : TableShape) (js : List Job) → IsStart o → AreJobs o.setting z js → All (λ (j : Job). j.worker < o.setting.workers) js
workers_below o z js start jobs k d low = let job = jobs.each k d low in worker_below o.setting (get_or js k d).number (get_or js k d).worker start.setting job.on
