-- What a comparison of policies promises, by its request and its policies, its devices and what it did.
use Rattle.std.specs.Prelude.{◌≡◌, ◌≤◌, ◌⊎◌, ℕ, max, List, [], ◌∷◌, All, Option, None, ⊤}
use Rattle.coop_outside.specs.Causes.{Rose}
use Rattle.command_words.specs.Options.{Request}
use Rattle.run_inputs.specs.Ending.{IsTextOf}
use Rattle.run_inputs.specs.Sources.{batch_source, table_source}
use Rattle.run_ends.specs.Devices.{DepotAt, OverShelf, OverSink}
use Rattle.run_ends.specs.Losses.{OnlyForMemory, SomeForMemory}
use Rattle.run_ends.specs.Running.{IsWorked}
use Rattle.run_ends.specs.Work.{Work}
use Rattle.run_ends.specs.Compared.{Over}
use Rattle.run_ends.specs.Lines.{lines_of}
use Rattle.run_ends.specs.Policies.{PolicyAt}
use Rattle.run_ends.specs.PolicyRuns.{work_in}
use Rattle.run_ends.specs.declared.policy_run.PolicyRun.{PolicyRun}
use Rattle.run_ends.specs.OverDevices.{AreFaultless, AreHonest, Devices}
use Rattle.run_ends.specs.Runs.{DidRuns}
use Rattle.run_ends.specs.Ending.{Headline, IsCutShort, IsForAnyParts, IsWritten, stop_over}

-- ---- what the workers did

-- the workers of each run did their work under its policy: the first run began with the depot as it was, each later one
-- with the depot that the run before it left; the last policies may have no run
abbrev pub HaveWorked : Request → Option (List ℕ) → Option (List ℕ) → List PolicyAt → DepotAt → List PolicyRun → Type 0
HaveWorked r table batch ps old [] = ⊤
HaveWorked r table batch [] old (run ∷ runs) = ⊥
HaveWorked r table batch (p ∷ ps) old (run ∷ runs) = (between : DepotAt) × (run.name ≡ p.name)
    × Over r table batch (λ i. IsWorked i (work_in p old between run)) × HaveWorked r table batch ps between runs

-- over every shelf: with what some texts gave the runs, which are those that the shelf tells where it tells any
pub record AllHaveWorked (r : Request) (ps : List PolicyAt) (shelf : OverShelf) (old : DepotAt)
    (runs : List PolicyRun) : Type 0 where
  pub table : Option (List ℕ)
  pub batch : Option (List ℕ)
  pub table_is : IsTextOf shelf.held (table_source r.table) table
  pub batch_is : IsTextOf shelf.held (batch_source r.batch) batch
  pub worked : HaveWorked r table batch ps old runs

-- ---- the headline

-- what may be said of a headline
abbrev pub Remark : Request → (List ℕ → Option (List ℕ)) → Type 1
Remark r files = (w : Work) (status : ℕ) (text : List ℕ) → Headline r files w status text → Type 0

-- of a run the headline holds, with the text that its policy alone would write, and the remark
pub record HeadlineUnder (r : Request) (files : List ℕ → Option (List ℕ)) (Holds : Remark r files) (p : PolicyAt)
    (old new : DepotAt) (run : PolicyRun) (status : ℕ) : Type 0 where
  pub name : run.name ≡ p.name
  pub text : List ℕ
  pub headline : Headline r files (work_in p old new run) status text
  pub holds : Holds (work_in p old new run) status text headline

-- THE HEADLINES of the runs with these policies, one after another, each with the remark; the status is the greatest of
-- theirs
abbrev pub Headlines : (r : Request) (files : List ℕ → Option (List ℕ)) → Remark r files → List PolicyAt → DepotAt
    → DepotAt → List PolicyRun → ℕ → Type 0
Headlines r files Holds [] old new [] status = (new ≡ old) × (status ≡ 0)
Headlines r files Holds [] old new (run ∷ runs) status = ⊥
Headlines r files Holds (p ∷ ps) old new [] status = ⊥
Headlines r files Holds (p ∷ ps) old new (run ∷ runs) status =
    (between : DepotAt) × (own : ℕ) × (rest : ℕ) × HeadlineUnder r files Holds p old between run own
    × Headlines r files Holds ps between new runs rest × (status ≡ max own rest)

-- no remark
abbrev pub nothing_more : (r : Request) (files : List ℕ → Option (List ℕ)) → Remark r files
nothing_more r files w status text h = ⊤

-- with 0 and 1 over honest devices the headline holds of the run of each policy, and their lines are written
abbrev pub KeepsHeadlines : Request → List PolicyAt → Devices → DidRuns → Type 0
KeepsHeadlines r ps over did = did.status ≤ 1 → (files : List ℕ → Option (List ℕ)) → AreHonest over files
    → Headlines r files (nothing_more r files) ps over.depot.old over.depot.new did.runs did.status
    × IsWritten (lines_of did.runs) over.sink

-- with 6 over honest devices it holds too, and a prefix of the lines is written
abbrev pub KeepsHeadlinesCut : Request → List PolicyAt → Devices → DidRuns → Type 0
KeepsHeadlinesCut r ps over did = did.status ≡ 6 → (files : List ℕ → Option (List ℕ)) → AreHonest over files
    → (ends : ℕ) × Headlines r files (nothing_more r files) ps over.depot.old over.depot.new did.runs ends
    × IsCutShort (lines_of did.runs) over.sink

-- ---- completeness

-- no query is lost unless out of memory
abbrev pub lost_for_memory : (r : Request) (files : List ℕ → Option (List ℕ)) → Remark r files
lost_for_memory r files w status text h = All OnlyForMemory h.losses

-- COMPLETENESS: where nothing refuses the runs and no honest device counts a fault, the line of each policy is written,
-- and no query is lost in any run, unless out of memory
abbrev pub AreComplete : Request → List PolicyAt → Devices → DidRuns → Type 0
AreComplete r ps over did = (files : List ℕ → Option (List ℕ)) → AreHonest over files → stop_over r files ≡ None
    → AreFaultless over
    → (did.status ≡ 7)
    ⊎ (Headlines r files (lost_for_memory r files) ps over.depot.old over.depot.new did.runs did.status
    × IsWritten (lines_of did.runs) over.sink)

-- PARTS: with 0 and 1 over honest devices, where the depot counts no fault, each run is one for any number of parts; or
-- memory ran out for one of its queries
abbrev pub for_any_parts : (r : Request) (files : List ℕ → Option (List ℕ)) → Remark r files
for_any_parts r files w status text h = SomeForMemory h.losses ⊎ IsForAnyParts h.table h.batch h.given w status text

abbrev pub AreForAllParts : Request → List PolicyAt → Devices → DidRuns → Type 0
AreForAllParts r ps over did = did.status ≤ 1 → (files : List ℕ → Option (List ℕ)) → AreHonest over files
    → (Rose over.depot.old.faults over.depot.new.faults → ⊥)
    → Headlines r files (for_any_parts r files) ps over.depot.old over.depot.new did.runs did.status

-- ---- what is written

-- a line for each run, with 0 and 1; a prefix of them with 6
pub record AreLines (runs : List PolicyRun) (status : ℕ) (sink : OverSink) : Type 0 where
  pub all : status ≤ 1 → IsWritten (lines_of runs) sink
  pub cut : status ≡ 6 → IsCutShort (lines_of runs) sink

-- with no policy to compare nothing is read and nothing written; or memory ran out for the words
pub record LeavesAll (over : Devices) (did : DidRuns) : Type 0 where
  pub status_is : (did.status ≡ 0) ⊎ (did.status ≡ 7)
  pub unread : over.shelf.now ≡ over.shelf.before
  pub depot : over.depot.new ≡ over.depot.old
  pub none : did.runs ≡ []
  pub unwritten : over.sink.new ≡ over.sink.old
