-- Workers before and after they run their jobs.
use Rattle.std.proofs.Common.{◌≡◌, ◌∷◌, [], ℕ, List, Result, All, length, map, refl, sym, ap, ◌∙◌, subst}
use Rattle.std.specs.List.{AllZip}
use Rattle.std.proofs.lemmas.List.Elements.{All-cons, All-head, All-nil, All-tail}
use Rattle.atomic_table.specs.Seated.{TableId}
use Rattle.scan_story.specs.declared.cause.Cause.{Cause}
use Rattle.scan_story.specs.declared.origin.Start.{Start}
use Rattle.scan_story.specs.Setting.{IsStart}
use Rattle.baton.specs.Passes.{PassView, new_pass}
use Rattle.frame_pool.specs.Berths.{PoolView}
use Rattle.frame_pool.specs.Frames.{Told}
use Rattle.piece_format.specs.Shape.{TableShape}
use Rattle.query_gather.specs.declared.partial.Partial.{Partial}
use Rattle.cscan.specs.Scans.{Fits}
use Rattle.cscan.specs.Stations.{IsSeated}
use Rattle.batch_ends.specs.Registering.{registered}
use Rattle.batch_ends.specs.declared.job.Job.{Job}
use Rattle.batch_run.specs.declared.shop.Shop.{Shop}
use Rattle.batch_run.specs.declared.worker.Worker.{Worker}
use Rattle.batch_run.specs.Crews.{IsFresh}
use Rattle.batch_ends.specs.Jobs.{jobs_on}
use Rattle.batch_run.specs.Jobs.{AreJobs}
use Rattle.batch_ends.specs.Lists.{CameOfAll}
use Rattle.batch_run.specs.Workers.{HasDone, HasRun, IsReady, Rests}

pub fresh_rests : (id : TableId) (o : Start) (n : ℕ) (p : PassView) → p ≡ new_pass id n o [] → Rests o p
fresh_rests id o n p is = subst (Rests o) (sym is) (record { own = refl; legal = tt; idle = record { holds_nothing = refl; loads_nothing = refl } })

module _ {S C P D : Type 0} (o : Start) (told : Told) (z : TableShape) (id : TableId) (pool : PoolView) where
  -- who has done nothing yet has run no job
  pub none_run : (n : ℕ) (w : Worker S C P D) → IsFresh id o z n w → IsSeated id pool o [] w.station → HasRun o told z id pool [] w
  none_run n w fresh seated = record {
    seated = seated;
    number = fresh.number;
    shape = fresh.shape;
    rests = fresh_rests id o w.number w.station.pass fresh.pass;
    registered = ap (λ (p : PassView). registered p.mine) fresh.pass;
    came = subst (λ (l : List (Result Partial Cause)). CameOfAll o told z w.station.pass.seen [] l) (sym fresh.none) tt;
  }

module _ {S C P D T : Type 0} (o : Start) (told : Told) (shop : Shop S C P D T) (z : TableShape) where
  ready_one : (w : Worker S C P D) → IsStart o → Fits o told z shop.pool.now → AreJobs o.setting z shop.jobs.now → IsFresh shop.baton.now o z (length shop.jobs.now) w
      → IsSeated shop.baton.now shop.pool.now o [] w.station → IsReady o told shop w
  ready_one w start fits jobs fresh seated = record {
    start = start;
    fits = subst (λ (s : TableShape). Fits o told s shop.pool.now) (sym fresh.shape) fits;
    jobs = subst (λ (s : TableShape). AreJobs o.setting s shop.jobs.now) (sym fresh.shape) jobs;
    none = subst (λ (s : TableShape). HasRun o told s shop.baton.now shop.pool.now [] w) (sym fresh.shape) (none_run o told z shop.baton.now shop.pool.now (length shop.jobs.now) w fresh seated);
    room = fresh.room;
  }

  pub ready_all : (ws : List (Worker S C P D)) → IsStart o → Fits o told z shop.pool.now → AreJobs o.setting z shop.jobs.now → All (IsFresh shop.baton.now o z (length shop.jobs.now)) ws
      → All (λ (w : Worker S C P D). IsSeated shop.baton.now shop.pool.now o [] w.station) ws → All (IsReady o told shop) ws
  ready_all ws start fits jobs fresh seated k d low = ready_one _ start fits jobs (fresh k d low) (seated k d low)

  -- what each worker has run in the end
  abbrev Ran : Worker S C P D → Type 0
  Ran w = HasRun o told z shop.baton.now shop.pool.now (jobs_on w.number shop.jobs.now) w

  done_one : (n : ℕ) (v w : Worker S C P D) → IsFresh shop.baton.now o z n v → HasDone o told shop v w → Ran w
  done_one n v w fresh done =
      subst (λ (k : ℕ). HasRun o told z shop.baton.now shop.pool.now (jobs_on k shop.jobs.now) w) (sym done.number)
      (subst (λ (s : TableShape). HasRun o told s shop.baton.now shop.pool.now (jobs_on v.number shop.jobs.now) w) fresh.shape done.all)

  pub done_all : (n : ℕ) (vs ws : List (Worker S C P D)) → All (IsFresh shop.baton.now o z n) vs → AllZip (HasDone o told shop) vs ws → All Ran ws
  done_all n [] [] fresh done = All-nil Ran
  done_all n [] (w ∷ ws) fresh done = absurd done
  done_all n (v ∷ vs) [] fresh done = absurd done
  done_all n (v ∷ vs) (w ∷ ws) fresh done =
      All-cons Ran w ws (done_one n v w (All-head (IsFresh shop.baton.now o z n) v vs fresh) done.0) (done_all n vs ws (All-tail (IsFresh shop.baton.now o z n) v vs fresh) done.1)

  pub same_workers : (vs ws : List (Worker S C P D)) → AllZip (HasDone o told shop) vs ws → map (λ (w : Worker S C P D). w.number) ws ≡ map (λ (w : Worker S C P D). w.number) vs
  same_workers [] [] done = refl
  same_workers [] (w ∷ ws) done = absurd done
  same_workers (v ∷ vs) [] done = absurd done
  same_workers (v ∷ vs) (w ∷ ws) done =
      ap (λ (n : ℕ). n ∷ map (λ (x : Worker S C P D). x.number) ws) done.0.number ∙ ap (λ (l : List ℕ). v.number ∷ l) (same_workers vs ws done.1)

pub run_seated : {S C P D : Type 0} (o : Start) (told : Told) (z : TableShape) (id : TableId) (pool : PoolView) (js : List Job) (ws : List (Worker S C P D))
    → All (λ (w : Worker S C P D). HasRun o told z id pool (jobs_on w.number js) w) ws → All (λ (w : Worker S C P D). IsSeated id pool o [] w.station) ws
run_seated o told z id pool js ws run k d low = (run k d low).seated
