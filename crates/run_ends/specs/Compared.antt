-- What a comparison of policies comes to.
use Rattle.std.specs.Prelude.{◌≡◌, ◌≢◌, ◌⊎◌, ◌++◌, ℕ, max, List, [], ◌∷◌, Option, None, Result, Ok, Err}
use Rattle.command_words.specs.Options.{Request}
use Rattle.run_stops.specs.declared.stop.Stop.{Stop}
use Rattle.run_stops.specs.declared.stop.Stop.TheVariants as stop
use Rattle.run_inputs.specs.Ending.{AreInputs, IsTextOf, SourceFails}
use Rattle.run_inputs.specs.Order.{first_stop}
use Rattle.run_inputs.specs.Sources.{batch_source, table_source}
use Rattle.run_inputs.specs.declared.inputs.Inputs.{Inputs}
use Rattle.run_ends.specs.Deciding.{StopsBefore}
use Rattle.run_ends.specs.Devices.{DepotAt, OverShelf}
use Rattle.run_ends.specs.Running.{Text}
use Rattle.run_ends.specs.Lines.{line_of}
use Rattle.run_ends.specs.Policies.{PolicyAt}
use Rattle.run_ends.specs.PolicyRuns.{IsCutOff, IsHindered, IsMade}
use Rattle.run_ends.specs.declared.policy_run.PolicyRun.{PolicyRun}

-- what is written where the rest follows a text: both texts and the greater status; or the stop of the rest
abbrev pub followed : Text → Result Text Stop → Result Text Stop
followed o (Ok rest) = Ok (max o.0 rest.0, o.1 ++ rest.1)
followed o (Err s) = Err s

-- over what a request gives a run with a table and a batch of these texts
pub record Over (r : Request) (table batch : Option (List ℕ)) (Comes : Inputs → Type 0) : Type 0 where
  pub given : Inputs
  pub is_given : AreInputs r table batch given
  pub comes : Comes given

-- THE RUNS of these policies, one after another, all over one table and one batch: the first begins with the depot as
-- it is, and each later one with the depot that the run before it left; each writes its line; the first stop ends the
-- work
abbrev pub AreRuns : Request → Option (List ℕ) → Option (List ℕ) → List PolicyAt → DepotAt → DepotAt → List PolicyRun
    → Result Text Stop → Type 0
AreRuns r table batch [] old new [] (Ok o) = (new ≡ old) × (o ≡ (0, []))
AreRuns r table batch (p ∷ ps) old new [] (Err s) = Over r table batch (λ i. IsHindered i p old new s)
AreRuns r table batch (p ∷ ps) old new (run ∷ runs) d =
    ((between : DepotAt) × (status : ℕ) × (rest : Result Text Stop)
    × Over r table batch (λ i. IsMade i p old between run status)
    × AreRuns r table batch ps between new runs rest × (d ≡ followed (status, line_of run) rest))
    ⊎ ((runs ≡ []) × (d ≡ Err stop.Memory) × Over r table batch (λ i. IsCutOff i p old new run))
AreRuns _ _ _ _ _ _ _ _ = ⊥

-- the work ends before the first run, by the texts of the table and the batch, or since the shelf failed, or when out
-- of memory
pub record EndsBefore (r : Request) (table batch : Option (List ℕ)) (shelf : OverShelf) (old new : DepotAt)
    (runs : List PolicyRun) (d : Result Text Stop) : Type 0 where
  pub stops : StopsBefore r table batch shelf d
  pub depot : new ≡ old
  pub none : runs ≡ []

-- what a comparison comes to with these texts
abbrev pub ComesTo : Request → Option (List ℕ) → Option (List ℕ) → OverShelf → List PolicyAt → DepotAt → DepotAt
    → List PolicyRun → Result Text Stop → Type 0
ComesTo r table batch shelf ps old new runs d =
    ((first_stop r table batch ≡ None) × AreRuns r table batch ps old new runs d)
    ⊎ EndsBefore r table batch shelf old new runs d

-- over every shelf and every depot: some texts were read once, which are those that the shelf tells where it tells any,
-- and they decide all runs
pub record Compares (r : Request) (shelf : OverShelf) (ps : List PolicyAt) (old new : DepotAt) (runs : List PolicyRun)
    (d : Result Text Stop) : Type 0 where
  pub table : Option (List ℕ)
  pub batch : Option (List ℕ)
  pub table_is : IsTextOf shelf.held (table_source r.table) table
  pub batch_is : IsTextOf shelf.held (batch_source r.batch) batch
  pub comes : ComesTo r table batch shelf ps old new runs d
  -- the shelf failed only where it counted a fault or tells that it lacks the name
  pub table_fault : d ≡ Err stop.TableFault → SourceFails shelf.held (table_source r.table) shelf.before shelf.now
  pub batch_fault : d ≡ Err stop.BatchFault → SourceFails shelf.held (batch_source r.batch) shelf.before shelf.now
  pub no_usage : d ≢ Err stop.Usage

-- nothing is read and nothing written
pub record DoesNothing (shelf : OverShelf) (old new : DepotAt) (runs : List PolicyRun)
    (d : Result Text Stop) : Type 0 where
  pub unread : shelf.now ≡ shelf.before
  pub depot : new ≡ old
  pub none : runs ≡ []
  pub writes : d ≡ Ok (0, [])

-- THE COMPARISON of the policies that are handed in
abbrev pub IsCompared : Request → OverShelf → List PolicyAt → DepotAt → DepotAt → List PolicyRun → Result Text Stop
    → Type 0
IsCompared r shelf [] old new runs d = DoesNothing shelf old new runs d
IsCompared r shelf (p ∷ ps) old new runs d = Compares r shelf (p ∷ ps) old new runs d
