-- What workers work at, before and after.
use Rattle.std.specs.Prelude.{◌≡◌, ℕ, List, [], All, map}
use Rattle.scan_story.specs.declared.origin.Start.{Start}
use Rattle.frame_pool.specs.Frames.{Told}
use Rattle.piece_format.specs.Shape.{TableShape}
use Rattle.batch_ends.specs.declared.job.Job.{Job}
use Rattle.batch_run.specs.declared.seating.Works.{Works}
use Rattle.batch_run.specs.declared.worker.Worker.{Worker}
use Rattle.batch_run.specs.Crews.{AreFresh, IsCrew, passes_of}
use Rattle.batch_ends.specs.Jobs.{jobs_on}
use Rattle.batch_run.specs.Workers.{HasRun}

module _ {S C P D : Type 0} where
  -- the works are the same, and so are the passes of the crew, in which nobody has done anything yet
  pub record IsSeating (o : Start) (z : TableShape) (jobs : ℕ) (old new : Works S C P D) : Type 0 where
    pub baton : new.baton ≡ old.baton
    pub pool : new.pool ≡ old.pool
    pub crew : IsCrew o new.baton new.pool new.crew
    pub fresh : AreFresh new.baton o z jobs new.crew
    pub passes : passes_of new.crew ≡ passes_of old.crew

  -- the workers of a crew, by number
  abbrev pub numbers_in : Works S C P D → List ℕ
  numbers_in works = map (λ (w : Worker S C P D). w.number) works.crew.workers.items

  -- the works and the workers are the same; everybody has a station, and has run the jobs that are on it
  pub record HasWorked (o : Start) (told : Told) (z : TableShape) (js : List Job)
      (old new : Works S C P D) : Type 0 where
    pub baton : new.baton ≡ old.baton
    pub pool : new.pool ≡ old.pool
    pub crew : IsCrew o new.baton new.pool new.crew
    pub none_left : new.crew.passes.items ≡ []
    pub numbers : numbers_in new ≡ numbers_in old
    pub workers : All
        (λ (w : Worker S C P D). HasRun o told z new.baton new.pool (jobs_on w.number js) w) new.crew.workers.items
