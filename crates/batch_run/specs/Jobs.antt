-- Jobs that may be done.
use Rattle.std.specs.Prelude.{◌≡◌, ◌==◌, ℕ, List, All, Some, filter, map}
use Rattle.scan_story.specs.declared.setting.Setting.{Setting}
use Rattle.scan_story.specs.Setting.{worker_of}
use Rattle.story_laws.specs.Lists.{NoneTwice}
use Rattle.piece_format.specs.Shape.{TableShape}
use Rattle.cscan.specs.Scans.{HasColumns}
use Rattle.batch_run.specs.Parts.{ReadsPlan}
use Rattle.batch_ends.specs.Rows.{IsPlanOfShape}
use Rattle.batch_ends.specs.declared.job.Job.{Job}
use Rattle.batch_ends.specs.Jobs.{numbers_of}

-- a job that may be done: its number's need names its worker and the columns of its plan, which is over tables of the
-- shape
pub record IsJob (s : Setting) (z : TableShape) (j : Job) : Type 0 where
  pub on : worker_of s j.number ≡ Some j.worker
  pub columns : HasColumns s z j.number
  pub reads : ReadsPlan s j.number j.plan.now
  pub plan : IsPlanOfShape z j.plan.now

-- each may be done, and no two have one number
pub record AreJobs (s : Setting) (z : TableShape) (js : List Job) : Type 0 where
  pub each : All (IsJob s z) js
  pub apart : NoneTwice (numbers_of js)
