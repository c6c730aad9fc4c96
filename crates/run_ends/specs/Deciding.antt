-- What a run decides before it writes a byte.
use Rattle.std.specs.Prelude.{◌≡◌, ◌≢◌, ◌⊎◌, ℕ, List, [], Option, Some, None, Result, Ok, Err}
use Rattle.coop_outside.specs.Causes.{Rose}
use Rattle.command_words.specs.Options.{Request}
use Rattle.run_stops.specs.declared.stop.Stop.{Stop}
use Rattle.run_stops.specs.declared.stop.Stop.TheVariants as stop
use Rattle.table_pieces.specs.declared.refusal.BatchRefusal.{BatchRefusal}
use Rattle.table_pieces.specs.declared.refusal.BatchRefusal.TheVariants as refusals
use Rattle.run_inputs.specs.Ending.{AreInputs, IsReadFault, IsTextOf, SourceFails}
use Rattle.run_inputs.specs.Order.{first_stop}
use Rattle.run_inputs.specs.Sources.{batch_source, table_source}
use Rattle.run_inputs.specs.declared.inputs.Inputs.{Inputs}
use Rattle.run_ends.specs.Devices.{OverShelf}
use Rattle.run_ends.specs.Running.{IsIdle, IsNotStored, IsRunOf, IsWorked, Text}
use Rattle.run_ends.specs.Work.{Work}
use Rattle.run_ends.specs.declared.output.Output.{Output}

-- what a decision to write shows
abbrev pub shown : Result Output Stop → Result Text Stop
shown (Ok output) = Ok (output.status, output.text)
shown (Err s) = Err s

-- why a run stops whose pieces can't be put
abbrev pub stop_for : BatchRefusal → Stop
stop_for (refusals.Put piece) = stop.NotStored piece
stop_for refusals.Memory = stop.Memory

-- no worker ran, and the depot is as it was
pub record IsUntouched (w : Work) : Type 0 where
  pub depot : w.new ≡ w.old
  pub story : w.story ≡ []
  pub taken : w.taken ≡ []

-- memory runs out, before a worker ran or after they did
pub record LacksMemory (i : Inputs) (w : Work) (s : Stop) : Type 0 where
  pub stop_is : s ≡ stop.Memory
  pub when : IsIdle w ⊎ IsWorked i w

-- what a batch comes to over what a run is given: a text, or memory runs out, or a piece wasn't stored
abbrev pub ComesOf : Inputs → Work → Result Text Stop → Type 0
ComesOf i w (Ok o) = IsRunOf i w o
ComesOf i w (Err s) = LacksMemory i w s ⊎ IsNotStored i w s

-- why a run stops before its batch runs, by the texts of its table and its batch: the first refusal in the order of the
-- work, or memory ran out, or the shelf failed in that order: while the batch was read only where the table is accepted
abbrev pub StopsBefore : Request → Option (List ℕ) → Option (List ℕ) → OverShelf → Result Text Stop → Type 0
StopsBefore r table batch shelf (Ok o) = ⊥
StopsBefore r table batch shelf (Err s) = (first_stop r table batch ≡ Some s) ⊎ (s ≡ stop.Memory)
    ⊎ (IsReadFault r table s × Rose shelf.before shelf.now)

-- the batch runs where nothing stops the run before
pub record Runs (r : Request) (table batch : Option (List ℕ)) (w : Work) (d : Result Text Stop) : Type 0 where
  pub accepted : first_stop r table batch ≡ None
  pub given : Inputs
  pub is_given : AreInputs r table batch given
  pub comes : ComesOf given w d

-- what a request comes to with these texts
abbrev pub ComesTo : Request → Option (List ℕ) → Option (List ℕ) → OverShelf → Work → Result Text Stop → Type 0
ComesTo r table batch shelf w d = Runs r table batch w d ⊎ (StopsBefore r table batch shelf d × IsUntouched w)

-- THE DECISION on a request over every shelf and every depot: some texts were read, which are those that the shelf
-- tells where it tells any, and they decide
pub record IsDecided (r : Request) (shelf : OverShelf) (w : Work) (d : Result Text Stop) : Type 0 where
  pub table : Option (List ℕ)
  pub batch : Option (List ℕ)
  pub table_is : IsTextOf shelf.held (table_source r.table) table
  pub batch_is : IsTextOf shelf.held (batch_source r.batch) batch
  pub comes : ComesTo r table batch shelf w d
  -- the shelf failed only where it counted a fault or tells that it lacks the name
  pub table_fault : d ≡ Err stop.TableFault → SourceFails shelf.held (table_source r.table) shelf.before shelf.now
  pub batch_fault : d ≡ Err stop.BatchFault → SourceFails shelf.held (batch_source r.batch) shelf.before shelf.now
  pub no_usage : d ≢ Err stop.Usage

-- words that are refused
abbrev pub IsUsage : Work → Result Text Stop → Type 0
IsUsage w d = ((d ≡ Err stop.Usage) ⊎ (d ≡ Err stop.Memory)) × IsUntouched w

-- what a run decides, by what its words ask for, where they are accepted
abbrev pub IsDecision : Option Request → OverShelf → Work → Result Text Stop → Type 0
IsDecision None shelf w d = IsUsage w d
IsDecision (Some r) shelf w d = IsDecided r shelf w d

-- WHAT THE WORKERS DID for a request, over every shelf: with what some texts gave the run, which are those that the
-- shelf tells where it tells any
pub record HasWorked (r : Request) (shelf : OverShelf) (w : Work) : Type 0 where
  pub table : Option (List ℕ)
  pub batch : Option (List ℕ)
  pub table_is : IsTextOf shelf.held (table_source r.table) table
  pub batch_is : IsTextOf shelf.held (batch_source r.batch) batch
  pub given : Inputs
  pub is_given : AreInputs r table batch given
  pub worked : IsWorked given w
