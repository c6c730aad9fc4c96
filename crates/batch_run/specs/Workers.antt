-- What a worker knows between two scans.
use Rattle.std.specs.Prelude.{◌≡◌, ◌≢◌, ◌≤◌, ◌∷◌, [], ℕ, List, length}
use Rattle.std.specs.VecDeque.{deque_capacity}
use Rattle.atomic_table.specs.Seated.{TableId}
use Rattle.scan_story.specs.declared.entry.Entry.{Entry}
use Rattle.scan_story.specs.declared.origin.Start.{Start}
use Rattle.scan_story.specs.Legal.{Legal}
use Rattle.scan_story.specs.Makers.{entries_by}
use Rattle.scan_story.specs.MayFollow.{IsIdle}
use Rattle.scan_story.specs.Setting.{IsStart}
use Rattle.scan_story.specs.Views.{past}
use Rattle.story_laws.specs.Queries.{chunks_delivered}
use Rattle.baton.specs.Passes.{PassView, Went}
use Rattle.frame_pool.specs.Berths.{PoolView}
use Rattle.frame_pool.specs.Frames.{Told}
use Rattle.piece_format.specs.Shape.{TableShape}
use Rattle.cscan.specs.Scans.{Fits}
use Rattle.cscan.specs.Stations.{IsSeated}
use Rattle.batch_ends.specs.Registering.{registered}
use Rattle.batch_ends.specs.declared.job.Job.{Job}
use Rattle.batch_run.specs.declared.shop.Shop.{Shop}
use Rattle.batch_run.specs.declared.worker.Worker.{Worker}
use Rattle.batch_ends.specs.Jobs.{jobs_on, numbers_of}
use Rattle.batch_run.specs.Jobs.{AreJobs}
use Rattle.batch_ends.specs.Lists.{CameOfAll}

-- the worker registered the query and no other one, and took chunks for no other one
pub record Ran (q : ℕ) (p r : PassView) : Type 0 where
  pub added : List Entry
  pub went : Went p r added
  pub registers : registered added ≡ q ∷ []
  pub others : (k : ℕ) → k ≢ q → chunks_delivered r.mine k ≡ chunks_delivered p.mine k

-- by what its worker has seen the story is legal, the entries of its number are its own, and it holds nothing and loads
-- nothing
pub record Rests (o : Start) (p : PassView) : Type 0 where
  pub own : entries_by p.number p.seen ≡ p.mine
  pub legal : Legal o.setting (past p.seen)
  pub idle : IsIdle o.setting (past p.seen) p.number

module _ {S C P D : Type 0} where
  -- the worker has run just these jobs over the shape, and has what came of them
  pub record HasRun (o : Start) (told : Told) (z : TableShape) (id : TableId) (pool : PoolView) (js : List Job)
      (w : Worker S C P D) : Type 0 where
    pub seated : IsSeated id pool o [] w.station
    pub number : w.station.number ≡ w.number
    pub shape : w.shape.now ≡ z
    pub rests : Rests o w.station.pass
    pub registered : registered w.station.pass.mine ≡ numbers_of js
    pub came : CameOfAll o told z w.station.pass.seen js w.results.items

module _ {S C P D T : Type 0} where
  -- the worker has run no job of the shop, and has room for what comes of them
  pub record IsReady (o : Start) (told : Told) (shop : Shop S C P D T) (w : Worker S C P D) : Type 0 where
    pub start : IsStart o
    pub fits : Fits o told w.shape.now shop.pool.now
    pub jobs : AreJobs o.setting w.shape.now shop.jobs.now
    pub none : HasRun o told w.shape.now shop.baton.now shop.pool.now [] w
    pub room : length shop.jobs.now ≤ deque_capacity w.results

  -- it is the same worker, and has run its jobs
  pub record HasDone (o : Start) (told : Told) (shop : Shop S C P D T) (old new : Worker S C P D) : Type 0 where
    pub number : new.number ≡ old.number
    pub all : HasRun o told old.shape.now shop.baton.now shop.pool.now (jobs_on old.number shop.jobs.now) new
