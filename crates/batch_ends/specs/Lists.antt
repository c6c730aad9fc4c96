-- What came of the jobs, in a list for each worker.
use Rattle.std.specs.Prelude.{◌≡◌, ◌<◌, ℕ, List, [], Result, length, slice_index_or}
use Rattle.std.specs.List.{AllZip}
use Rattle.scan_story.specs.declared.cause.Cause.{Cause}
use Rattle.scan_story.specs.declared.entry.Entry.{Entry}
use Rattle.scan_story.specs.declared.origin.Start.{Start}
use Rattle.frame_pool.specs.Frames.{Told}
use Rattle.piece_format.specs.Shape.{TableShape}
use Rattle.query_gather.specs.declared.partial.Partial.{Partial}
use Rattle.batch_ends.specs.declared.job.Job.{Job}
use Rattle.batch_ends.specs.Came.{CameFor}
use Rattle.batch_ends.specs.Jobs.{jobs_on}

-- what came of a job
abbrev pub CameOfJob : Start → Told → TableShape → List Entry → Job → Result Partial Cause → Type 0
CameOfJob o told z story j r = CameFor o told z story j.number j.plan.now r

-- these came of the jobs, each in its place
abbrev pub CameOfAll : Start → Told → TableShape → List Entry → List Job → List (Result Partial Cause) → Type 0
CameOfAll o told z story js rs = AllZip (CameOfJob o told z story) js rs

-- the list of a worker
abbrev pub list_of : List (List (Result Partial Cause)) → ℕ → List (Result Partial Cause)
list_of lists w = slice_index_or lists w []

-- each worker's list has one result for each of its jobs
abbrev pub AreCounted : List Job → List (List (Result Partial Cause)) → Type 0
AreCounted js lists = (w : ℕ) → w < length lists → length (jobs_on w js) ≡ length (list_of lists w)

-- each worker's list has what came of its jobs, in their order
abbrev pub AreSorted : Start → Told → TableShape → List Entry → List Job → List (List (Result Partial Cause)) → Type 0
AreSorted o told z story js lists = (w : ℕ) → w < length lists
    → CameOfAll o told z story (jobs_on w js) (list_of lists w)
