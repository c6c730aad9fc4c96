-- The scans of a batch: one for each part of each query.
use Rattle.std.specs.Prelude.{◌+◌, ◌-◌, ◌*◌, ◌%◌, ◌++◌, ℕ, zero, suc, List, [], ◌∷◌, map}
use Rattle.filter_zones.specs.declared.zone.ChunkZones.{ChunkZones}
use Rattle.filter_zones.specs.Possible.{needed}
use Rattle.batch_plan.specs.Deal.{deal}
use Rattle.chunk_interest.specs.declared.need.Need.{Need}
use Rattle.sql_bind.specs.declared.plan.Plan.{Plan}
use Rattle.batch_plan.specs.declared.task.Task.{Task}

-- the number of the scan of a part of a query, where each query has so many parts: queries count from 1, parts from 0
abbrev pub scan_number : ℕ → ℕ → ℕ → ℕ
scan_number parts query part = (query - 1) * parts + part + 1

-- a scan: a part of a query, its number, the worker on which it runs, and the query's plan
pub record Scan : Type 0 where
  pub query : ℕ
  pub part : ℕ
  pub number : ℕ
  pub worker : ℕ
  pub plan : Plan

-- the scan of a part of a task that stands at this place in the list of all scans: the workers take turns
abbrev pub scan_of : ℕ → ℕ → Task → ℕ → ℕ → Scan
scan_of workers parts t place part = record {
  query = t.query;
  part = part;
  number = scan_number parts t.query part;
  worker = place % workers;
  plan = t.plan;
}

-- the scans of a task's parts from one part on, of which so many are left
abbrev pub scans_from_part : ℕ → ℕ → Task → ℕ → ℕ → ℕ → List Scan
scans_from_part workers parts t place part zero = []
scans_from_part workers parts t place part (suc left) = scan_of workers parts t place part
    ∷ scans_from_part workers parts t (place + 1) (part + 1) left

-- the scans of tasks, behind those of the tasks before them: in task order, and of each task in part order
abbrev pub scans_from : ℕ → ℕ → ℕ → List Task → List Scan
scans_from workers parts place [] = []
scans_from workers parts place (t ∷ tasks) = scans_from_part workers parts t place 0 parts
    ++ scans_from workers parts (place + parts) tasks

-- THE SCANS of a batch
abbrev pub scans : ℕ → ℕ → List Task → List Scan
scans workers parts tasks = scans_from workers parts 0 tasks

-- what a scan needs: its part of the chunks that its query needs, and the columns of the query's plan
abbrev pub need_of : List ChunkZones → ℕ → Scan → Need
need_of zones parts k = record {
  query = k.number;
  worker = k.worker;
  chunks = deal (needed k.plan.cond zones) parts k.part;
  columns = k.plan.columns;
}

-- what all scans need
abbrev pub needs : List ChunkZones → ℕ → List Scan → List Need
needs zones parts ks = map (need_of zones parts) ks
