-- What the run with one policy comes to, over what a run is given.
use Rattle.std.specs.Prelude.{◌≡◌, ℕ, List, []}
use Rattle.run_stops.specs.declared.stop.Stop.{Stop}
use Rattle.run_inputs.specs.declared.inputs.Inputs.{Inputs}
use Rattle.run_ends.specs.Answering.{IsUnanswered}
use Rattle.run_ends.specs.Devices.{DepotAt}
use Rattle.run_ends.specs.Running.{IsRunOf, IsWorked}
use Rattle.run_ends.specs.Work.{Work, work}
use Rattle.run_ends.specs.Policies.{PolicyAt}
use Rattle.run_ends.specs.declared.policy_run.PolicyRun.{PolicyRun}
use Rattle.run_ends.specs.declared.ending.Ending.{Ending}
use Rattle.run_ends.specs.declared.ending.Ending.TheVariants as ending

-- what the workers of a run did, from one depot to another
abbrev pub work_in : PolicyAt → DepotAt → DepotAt → PolicyRun → Work
work_in p old new run = work p.name p.cursor old new run.story.items run.taken.items

-- the same where no worker ran
abbrev pub no_work : PolicyAt → DepotAt → DepotAt → Work
no_work p old new = work p.name p.cursor old new [] []

-- A RUN IS MADE: its story and its chunks are those of a run with this policy alone, which ends with this status,
-- whatever it writes
pub record IsMade (i : Inputs) (p : PolicyAt) (old new : DepotAt) (run : PolicyRun) (status : ℕ) : Type 0 where
  pub name : run.name ≡ p.name
  pub text : List ℕ
  pub is_run : IsRunOf i (work_in p old new run) (status, text)

-- memory ran out behind the workers of a run
pub record IsCutOff (i : Inputs) (p : PolicyAt) (old new : DepotAt) (run : PolicyRun) : Type 0 where
  pub name : run.name ≡ p.name
  pub worked : IsWorked i (work_in p old new run)

-- no worker of a run ran: memory ran out, or a piece wasn't stored
abbrev pub IsHindered : Inputs → PolicyAt → DepotAt → DepotAt → Stop → Type 0
IsHindered i p old new s = IsUnanswered i (no_work p old new) s

-- WHAT THE RUN WITH A POLICY COMES TO: what its workers left is there exactly where they ran
abbrev pub RunComesTo : Inputs → PolicyAt → DepotAt → DepotAt → Ending → Type 0
RunComesTo i p old new (ending.Made run status) = IsMade i p old new run status
RunComesTo i p old new (ending.Hindered s) = IsHindered i p old new s
