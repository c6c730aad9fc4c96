-- What a part of a query comes to.
use Rattle.std.specs.Prelude.{◌≡◌, ◌≢◌, true, ℕ, List, [], None, Some, Result, Ok, Err}
use Rattle.table_sets.specs.Sets as sets
use Rattle.scan_story.specs.declared.entry.Entry.{Entry}
use Rattle.scan_story.specs.declared.origin.Start.{Start}
use Rattle.scan_story.specs.declared.setting.Setting.{Setting}
use Rattle.scan_story.specs.Counting.{has}
use Rattle.scan_story.specs.Setting.{asks_for}
use Rattle.scan_story.specs.Views.{past, is_ended}
use Rattle.scan_story.specs.Causes.{cause_of}
use Rattle.story_laws.specs.Lists.{NoneTwice}
use Rattle.story_laws.specs.Queries.{chunks_delivered}
use Rattle.baton.specs.Passes.{PassView, Went}
use Rattle.frame_pool.specs.Frames.{Told}
use Rattle.sql_bind.specs.declared.plan.Plan.{Plan}
use Rattle.query_gather.specs.declared.partial.Partial.{Partial}
use Rattle.cscan.specs.declared.scan.CScan.{CScan}
use Rattle.cscan.specs.Scans.{IsOver, IsScan, reads_column}
use Rattle.batch_run.specs.declared.part.Unfinished.{Unfinished}
use Rattle.batch_run.specs.declared.part.Unfinished.TheVariants as unfinished
use Rattle.batch_ends.specs.Registering.{registered}
use Rattle.batch_ends.specs.Gathered.{Gathered}

-- the query reads just the columns that the plan names
abbrev pub ReadsPlan : Setting → ℕ → Plan → Type 0
ReadsPlan s q p = (x : ℕ) → reads_column s q x ≡ sets.has p.columns x

-- each chunk of the query's need is among these, once, and no other
pub record AreAllOnce (s : Setting) (q : ℕ) (cs : List ℕ) : Type 0 where
  pub asked : (c : ℕ) → has cs c ≡ asks_for s q c
  pub once : NoneTwice cs

-- the worker went on for the query alone: it registered none, and took no chunk for another one
pub record WentFor (q : ℕ) (p r : PassView) : Type 0 where
  pub added : List Entry
  pub went : Went p r added
  pub none_registered : registered added ≡ []
  pub others : (k : ℕ) → k ≢ q → chunks_delivered r.mine k ≡ chunks_delivered p.mine k

module _ {S C P D T K : Type 0} where
  -- what a part's answer says. Done: the query has its End, each chunk of its need was taken once, and their rows are
  -- gathered; stopped: for this cause; when out of memory the scan is still under way, and no chunk is out
  abbrev pub CameTo : Start → Told → CScan S C P D T K → Plan → Result Partial Unfinished → Type 0
  CameTo o told scan p (Ok partial) = IsOver o scan.baton.now scan.pool.now scan.query scan.station.now
      × (is_ended (past scan.station.now.pass.seen) scan.query ≡ true)
      × AreAllOnce o.setting scan.query (chunks_delivered scan.station.now.pass.mine scan.query)
      × Gathered scan.shape.now p o.held told (chunks_delivered scan.station.now.pass.mine scan.query) partial
  CameTo o told scan p
      (Err (unfinished.Stopped cause)) = IsOver o scan.baton.now scan.pool.now scan.query scan.station.now
      × (cause_of (past scan.station.now.pass.seen) scan.query ≡ Some cause)
  CameTo o told scan p (Err unfinished.Memory) = IsScan o told scan × (scan.out ≡ None)
