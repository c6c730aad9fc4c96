-- What the workers did under policies in boxes.
use Rattle.std.specs.Prelude.{◌≡◌, ◌≢◌, ◌≤◌, ◌⊎◌, ◌++◌, ℕ, List, [], ◌∷◌, All, length, map}
use Rattle.scan_story.specs.declared.setting.PolicyName.{PolicyName}
use Rattle.batch_ends.specs.declared.taken.Taken.{Taken}
use Rattle.run_ends.specs.Devices.{DepotAt}
use Rattle.run_ends.specs.Work.{Work, work}
use Rattle.run_ends.specs.Joined.{joined_story}
use Rattle.run_ends.specs.Policies.{PolicyAt}
use Rattle.run_ends.specs.declared.policy_run.PolicyRun.{PolicyRun}
use Rattle.run_ends.specs.Did.{Did, did_with}

-- the chunks that the scans of runs took
abbrev pub joined_taken : List PolicyRun → List Taken
joined_taken [] = []
joined_taken (run ∷ runs) = run.taken.items ++ joined_taken runs

-- the work of the runs with one policy
abbrev pub work_under : PolicyAt → DepotAt → DepotAt → List PolicyRun → Work
work_under p old new runs = work p.name p.cursor old new (joined_story runs) (joined_taken runs)

-- WHAT A RUN WITH POLICIES IN BOXES DID: how it ended, and what the workers left under each policy with which they ran
pub record DidRuns : Type 0 where
  pub status : ℕ
  pub runs : List PolicyRun

abbrev pub did_runs : ℕ → List PolicyRun → DidRuns
did_runs status runs = record { status = status; runs = runs }

-- the same as what a run with one policy did
abbrev pub did_under : PolicyAt → DidRuns → Did
did_under p did = did_with p did.status (joined_story did.runs) (joined_taken did.runs)

-- with 0, 1 and 6 there is one run, under the name of the policy; with 7 there may be one; else there is none
pub record AreOfOne (p : PolicyAt) (status : ℕ) (runs : List PolicyRun) : Type 0 where
  pub few : length runs ≤ 1
  pub named : All (λ (run : PolicyRun). run.name ≡ p.name) runs
  pub ran : (status ≤ 1) ⊎ (status ≡ 6) → length runs ≡ 1
  pub idle : 2 ≤ status → status ≢ 6 → status ≢ 7 → runs ≡ []

-- there is a run for each of the first policies, in their order; with 0, 1 and 6 for all
pub record AreOfEach (ps : List PolicyAt) (status : ℕ) (runs : List PolicyRun) : Type 0 where
  pub without : List PolicyName
  pub named : map (λ (p : PolicyAt). p.name) ps ≡ map (λ (run : PolicyRun). run.name) runs ++ without
  pub ran : (status ≤ 1) ⊎ (status ≡ 6) → without ≡ []
