use Rattle.std.proofs.Common.{◌≡◌, ◌≤◌, length, take, vec_len, vec_capacity}
use Rattle.std.specs.List.{AllZip}
use Rattle.batch_plan.specs.Scans.{scans}
use Rattle.batch_ends.specs.Jobs.{IsJobOf}
use Rattle.batch_ends.proofs.job.jobs_of.Given as goal

-- the jobs of the first scans are there
abbrev pub invariant-loop-place : goal.invariant-loop-place
invariant-loop-place l =
    (vec_len l.jobs ≡ l.place) × (length l.needs ≤ vec_capacity l.jobs) × AllZip IsJobOf (take l.place (scans l.workers l.parts l.tasks)) l.jobs.items
