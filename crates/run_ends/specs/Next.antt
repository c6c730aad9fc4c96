-- How a run changes what was made before it.
use Rattle.std.specs.Prelude.{◌≡◌, ◌⊎◌, ◌++◌, ℕ, max, List, [], ◌∷◌, Result, Err}
use Rattle.run_stops.specs.declared.stop.Stop.{Stop}
use Rattle.run_stops.specs.declared.stop.Stop.TheVariants as stop
use Rattle.run_inputs.specs.declared.inputs.Inputs.{Inputs}
use Rattle.run_ends.specs.Devices.{DepotAt}
use Rattle.run_ends.specs.Running.{Text}
use Rattle.run_ends.specs.Lines.{line_of}
use Rattle.run_ends.specs.Policies.{PolicyAt}
use Rattle.run_ends.specs.PolicyRuns.{IsCutOff, IsHindered, IsMade}
use Rattle.run_ends.specs.declared.policy_run.PolicyRun.{PolicyRun}

-- one run more is made: it joins the runs, and its line the text
pub record IsNext (i : Inputs) (p : PolicyAt) (old new : DepotAt) (runs : List PolicyRun) (o : Text)
    (runs_after : List PolicyRun) (o_after : Text) : Type 0 where
  pub run : PolicyRun
  pub status : ℕ
  pub made : IsMade i p old new run status
  pub runs_are : runs_after ≡ runs ++ run ∷ []
  pub output_is : o_after ≡ (max o.0 status, o.1 ++ line_of run)

-- the work ends in the next run: before its workers ran, or behind them
abbrev pub EndsIn : Inputs → PolicyAt → DepotAt → DepotAt → List PolicyRun → List PolicyRun → Result Text Stop → Type 0
EndsIn i p old new runs runs_after d =
    ((s : Stop) × (d ≡ Err s) × (runs_after ≡ runs) × IsHindered i p old new s)
    ⊎ ((run : PolicyRun) × (d ≡ Err stop.Memory) × (runs_after ≡ runs ++ run ∷ []) × IsCutOff i p old new run)
