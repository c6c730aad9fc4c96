-- The scans of a batch as jobs.
use Rattle.std.specs.Prelude.{◌≡◌, ◌==◌, ℕ, List, map, filter}
use Rattle.batch_plan.specs.Scans.{Scan}
use Rattle.batch_ends.specs.declared.job.Job.{Job}

-- the job is to run the scan
pub record IsJobOf (k : Scan) (j : Job) : Type 0 where
  pub number : j.number ≡ k.number
  pub worker : j.worker ≡ k.worker
  pub plan : j.plan.now ≡ k.plan

-- the numbers of jobs, in their order
abbrev pub numbers_of : List Job → List ℕ
numbers_of js = map (λ (j : Job). j.number) js

-- the jobs of a worker, in their order
abbrev pub jobs_on : ℕ → List Job → List Job
jobs_on w js = filter (λ (j : Job). j.worker == w) js
