-- All workers of a batch, with and without their stations.
use Rattle.std.specs.Prelude.{◌≡◌, ◌≤◌, ◌+◌, ◌++◌, ◌∷◌, [], ℕ, zero, suc}
use Rattle.std.specs.Prelude.{List, All, map, reverse, vec_len, vec_capacity}
use Rattle.std.specs.VecDeque.{deque_capacity}
use Rattle.atomic_table.specs.Seated.{TableId}
use Rattle.scan_story.specs.declared.origin.Start.{Start}
use Rattle.baton.specs.Passes.{IsFree, PassView, new_pass, new_passes}
use Rattle.frame_pool.specs.Berths.{IsBlank, IsOf, PoolView}
use Rattle.piece_format.specs.Shape.{TableShape}
use Rattle.cscan.specs.Stations.{IsSeated}
use Rattle.batch_run.specs.declared.crew.Crew.{Crew}
use Rattle.batch_run.specs.declared.worker.Worker.{Worker}

-- the numbers below n, in rising order
abbrev pub up_to : ℕ → List ℕ
up_to zero = []
up_to (suc n) = up_to n ++ n ∷ []

-- the workers' numbers that passes have
abbrev pub workers_of : List PassView → List ℕ
workers_of ps = map (λ (p : PassView). p.number) ps

module _ {S C P D : Type 0} where
  -- all passes of a crew: those without a station, and behind them the workers', the last one first
  abbrev pub passes_of : Crew S C P D → List PassView
  passes_of c = c.passes.items ++ reverse (map (λ (w : Worker S C P D). w.station.pass) c.workers.items)

  -- the workers sit at their stations; whoever doesn't has a berth and a pass; and there is room for all of them
  pub record IsCrew (o : Start) (id : TableId) (pool : PoolView) (c : Crew S C P D) : Type 0 where
    pub seated : All (λ (w : Worker S C P D). IsSeated id pool o [] w.station) c.workers.items
    pub blank : All (λ b. IsOf pool b × IsBlank b) c.berths.items
    pub free : All (IsFree id) c.passes.items
    pub some : 1 ≤ pool.berths
    pub berths : vec_len c.berths + vec_len c.workers ≡ pool.berths
    pub pairs : vec_len c.passes ≡ vec_len c.berths
    pub room : pool.berths ≤ vec_capacity c.berths
    pub room_for_passes : pool.berths ≤ vec_capacity c.passes

  -- a worker that has done nothing yet, with room for so many results
  pub record IsFresh (id : TableId) (o : Start) (z : TableShape) (jobs : ℕ) (w : Worker S C P D) : Type 0 where
    pub number : w.station.number ≡ w.number
    pub shape : w.shape.now ≡ z
    pub pass : w.station.pass ≡ new_pass id w.number o []
    pub none : w.results.items ≡ []
    pub room : jobs ≤ deque_capacity w.results

  -- nobody of the crew has done anything yet
  pub record AreFresh (id : TableId) (o : Start) (z : TableShape) (jobs : ℕ) (c : Crew S C P D) : Type 0 where
    pub passes : c.passes.items ≡ new_passes id o [] (vec_len c.passes)
    pub workers : All (IsFresh id o z jobs) c.workers.items
    pub few : vec_len c.passes ≤ 32
    pub room : vec_len c.passes + vec_len c.workers ≤ vec_capacity c.workers
