-- What came of the scans of a batch.
use Rattle.std.specs.Prelude.{◌≡◌, true, ℕ, List, Some, Result, Ok, Err}
use Rattle.scan_story.specs.declared.cause.Cause.{Cause}
use Rattle.scan_story.specs.declared.entry.Entry.{Entry}
use Rattle.scan_story.specs.declared.origin.Start.{Start}
use Rattle.scan_story.specs.Views.{past, is_ended}
use Rattle.scan_story.specs.Causes.{cause_of}
use Rattle.story_laws.specs.Queries.{chunks_delivered}
use Rattle.chunk_interest.specs.declared.need.Need.{Need}
use Rattle.frame_pool.specs.Frames.{Told}
use Rattle.piece_format.specs.Shape.{TableShape}
use Rattle.sql_bind.specs.declared.plan.Plan.{Plan}
use Rattle.query_gather.specs.declared.partial.Partial.{Partial}
use Rattle.batch_plan.specs.Scans.{Scan}
use Rattle.batch_ends.specs.Gathered.{Gathered}

-- what came of the scan with this number and plan by the story: it has its End and what is gathered is of the chunks
-- that were delivered to it, in their order; or the story stopped it, first for this cause
abbrev pub CameFor : Start → Told → TableShape → List Entry → ℕ → Plan → Result Partial Cause → Type 0
CameFor o told z story number plan (Ok partial) = (is_ended (past story) number ≡ true)
    × Gathered z plan o.held told (chunks_delivered story number) partial
CameFor o told z story number plan (Err cause) = cause_of (past story) number ≡ Some cause

-- what came of a scan
abbrev pub CameOf : Start → Told → TableShape → List Entry → Scan → Result Partial Cause → Type 0
CameOf o told z story k r = CameFor o told z story k.number k.plan r

-- a need names its scan's number, its worker and the columns of its plan
pub record IsNeedOf (k : Scan) (n : Need) : Type 0 where
  pub query : n.query ≡ k.number
  pub worker : n.worker ≡ k.worker
  pub columns : n.columns ≡ k.plan.columns
