-- What a run with boxed policies promises, by its job, its devices and what it did.
use Rattle.std.specs.Prelude.{◌≡◌, ◌+◌, ◌⊎◌, ℕ, List, [], ◌∷◌, Some, Result, Err, is_some, ⊤}
use Rattle.coop_outside.specs.Causes.{Rose}
use Rattle.command_words.specs.Options.{Request}
use Rattle.scan_story.specs.Causes.{Licensed}
use Rattle.scan_story.specs.Spent.{reads}
use Rattle.scan_story.specs.Views.{past}
use Rattle.run_stops.specs.declared.stop.Stop.{Stop}
use Rattle.run_stops.specs.declared.stop.Stop.TheVariants as stop
use Rattle.run_ends.specs.Deciding.{IsDecided}
use Rattle.run_ends.specs.Devices.{DepotAt, OverShelf}
use Rattle.run_ends.specs.Running.{Text}
use Rattle.run_ends.specs.Compared.{IsCompared}
use Rattle.run_ends.specs.Joined.{joined_story}
use Rattle.run_ends.specs.Policies.{PolicyAt}
use Rattle.run_ends.specs.Unanswered.{HasCause}
use Rattle.run_ends.specs.declared.policy_run.PolicyRun.{PolicyRun}
use Rattle.run_ends.specs.Comparing.{AllHaveWorked, AreComplete, AreForAllParts, AreLines}
use Rattle.run_ends.specs.Comparing.{KeepsHeadlines, KeepsHeadlinesCut, LeavesAll}
use Rattle.run_ends.specs.OverDevices.{Devices}
use Rattle.run_ends.specs.Ending.{FailsAtEither, FailsAtTable, Prints}
use Rattle.run_ends.specs.Jobs.{Job, refused, alone, compared, asked_in, asked_to_read}
use Rattle.run_ends.specs.Promises.{FailsToRead, IsComplete, IsForAllParts, IsUsageExactly, KeepsHeadline}
use Rattle.run_ends.specs.Promises.{KeepsHeadlineCut, LeavesItsWork, MissesFile, StopsExactly}
use Rattle.run_ends.specs.Runs.{AreOfEach, AreOfOne, DidRuns, did_under, work_under}

-- THE HEADLINE, with the policy of the job, or with each of those that are compared
abbrev pub KeepsHeadlineOn : Job → Devices → DidRuns → Type 0
KeepsHeadlineOn refused over did = ⊤
KeepsHeadlineOn (alone r p) over did = KeepsHeadline (Some r) over (did_under p did)
KeepsHeadlineOn (compared r ps) over did = KeepsHeadlines r ps over did

-- with 6, of a text of which a front is written
abbrev pub KeepsHeadlineCutOn : Job → Devices → DidRuns → Type 0
KeepsHeadlineCutOn refused over did = ⊤
KeepsHeadlineCutOn (alone r p) over did = KeepsHeadlineCut (Some r) over (did_under p did)
KeepsHeadlineCutOn (compared r ps) over did = KeepsHeadlinesCut r ps over did

-- COMPLETENESS
abbrev pub IsCompleteOn : Job → Devices → DidRuns → Type 0
IsCompleteOn refused over did = ⊤
IsCompleteOn (alone r p) over did = IsComplete (Some r) over (did_under p did)
IsCompleteOn (compared r ps) over did = AreComplete r ps over did

-- PARTS
abbrev pub IsForAllPartsOn : Job → Devices → DidRuns → Type 0
IsForAllPartsOn refused over did = ⊤
IsForAllPartsOn (alone r p) over did = IsForAllParts (Some r) over (did_under p did)
IsForAllPartsOn (compared r ps) over did = AreForAllParts r ps over did

-- what the workers did: with 0, 1 and 6 those of one policy; with every status those of each run of a comparison
abbrev pub LeavesItsWorkOn : Job → Devices → DidRuns → Type 0
LeavesItsWorkOn refused over did = ⊤
LeavesItsWorkOn (alone r p) over did = LeavesItsWork (Some r) over (did_under p did)
LeavesItsWorkOn (compared r ps) over did = AllHaveWorked r ps over.shelf over.depot.old did.runs

-- the runs that are left
abbrev pub LeavesRuns : Job → ℕ → List PolicyRun → Type 0
LeavesRuns refused status runs = runs ≡ []
LeavesRuns (alone r p) status runs = AreOfOne p status runs
LeavesRuns (compared r ps) status runs = AreOfEach ps status runs

-- what is written of a comparison: a line for each run
abbrev pub WritesLines : Job → Devices → DidRuns → Type 0
WritesLines refused over did = ⊤
WritesLines (alone r p) over did = ⊤
WritesLines (compared r ps) over did = AreLines did.runs did.status over.sink

-- 1, of a comparison: some run leaves a statement unanswered, and why
abbrev pub HasCauseOn : Job → Devices → DidRuns → Type 0
HasCauseOn refused over did = ⊤
HasCauseOn (alone r p) over did = ⊤
HasCauseOn (compared r ps) over did = did.status ≡ 1 → HasCause r over.shelf ps over.depot.old did.runs

-- with no policy to compare nothing is read and nothing written
abbrev pub ComparesNothing : Job → Devices → DidRuns → Type 0
ComparesNothing refused over did = ⊤
ComparesNothing (alone r p) over did = ⊤
ComparesNothing (compared r []) over did = LeavesAll over did
ComparesNothing (compared r (p ∷ ps)) over did = ⊤

-- nothing is done: the words are refused, or memory ran out for them
pub record IsUndone (old new : DepotAt) (runs : List PolicyRun) (d : Result Text Stop) : Type 0 where
  pub stop_is : (d ≡ Err stop.Usage) ⊎ (d ≡ Err stop.Memory)
  pub depot : new ≡ old
  pub none : runs ≡ []

-- memory ran out for the words of a comparison
pub record LacksMemoryAtFirst (shelf : OverShelf) (old new : DepotAt) (runs : List PolicyRun)
    (d : Result Text Stop) : Type 0 where
  pub stop_is : d ≡ Err stop.Memory
  pub unread : shelf.now ≡ shelf.before
  pub depot : new ≡ old
  pub none : runs ≡ []

-- THE DECISION on a job, over every shelf and every depot
abbrev pub DecidesOn : Job → OverShelf → DepotAt → DepotAt → List PolicyRun → Result Text Stop → Type 0
DecidesOn refused shelf old new runs d = IsUndone old new runs d
DecidesOn (alone r p) shelf old new runs d = IsDecided r shelf (work_under p old new runs) d
DecidesOn (compared r ps) shelf old new runs d = LacksMemoryAtFirst shelf old new runs d
    ⊎ IsCompared r shelf ps old new runs d

-- what was decided over every device, with its causes, and what of it was written
abbrev pub DecidesAndPrintsOn : Job → Devices → DidRuns → Type 0
DecidesAndPrintsOn job over did = (d : Result Text Stop)
    × DecidesOn job over.shelf over.depot.old over.depot.new did.runs d × Prints d did.status over.sink

-- the same of a comparison
abbrev pub ComparesAndPrints : Request → List PolicyAt → Devices → DidRuns → Type 0
ComparesAndPrints r ps over did = (d : Result Text Stop)
    × IsCompared r over.shelf ps over.depot.old over.depot.new did.runs d × Prints d did.status over.sink

-- WHAT A RUN WITH BOXED POLICIES PROMISES
pub record KeepsPromisesOn (job : Job) (over : Devices) (did : DidRuns) : Type 0 where
  -- 0 and 1, THE HEADLINE, of the run with one policy and of each run of a comparison: for every table, batch, number
  -- of workers and buffer of at least three frames per worker plus one, in every interleaving that ends, each query not
  -- refused prints its SQL meaning over the whole table; its scans took each chunk that it needs exactly once, from
  -- frames that nobody refilled meanwhile; and every recorded load, delivery and eviction was the policy's choice among
  -- those it allowed
  pub headline : KeepsHeadlineOn job over did
  -- where nothing refuses the run and no device counts a fault, the answers are written, and no query is lost, unless
  -- out of memory
  pub complete : IsCompleteOn job over did
  -- the answers are those of any number of parts, and each chunk that a query needs was delivered to exactly one of its
  -- scans
  pub parts : IsForAllPartsOn job over did
  -- 2: the words are refused, or, without a comparison, no policy of the name was handed in
  pub usage : IsUsageExactly (asked_in job) did.status
  -- 3: the table is refused, or has too many chunks; only a shelf that failed while the table was read excuses it
  pub no_table : StopsExactly 3 FailsAtTable (asked_to_read job) over.shelf over.sink did.status
  -- 4: the shelf failed, or lacks the name, at the batch only where the table is accepted; always where it tells that
  -- it lacks the name, and nothing is refused before
  pub read_fault : FailsToRead (asked_to_read job) over.shelf over.sink did.status
  pub no_file : MissesFile (asked_to_read job) over.shelf did.status
  -- 5: the depot failed while pieces were put
  pub put_fault : did.status ≡ 5 → Rose over.depot.old.faults over.depot.new.faults
  -- 6: the sink failed, and has a prefix of the output
  pub write_fault : did.status ≡ 6 → Rose over.sink.before over.sink.now
  pub cut : KeepsHeadlineCutOn job over did
  -- 7: memory ran out, and nothing is written
  pub no_memory : did.status ≡ 7 → over.sink.new ≡ over.sink.old
  -- 8: there are too few frames, or too many words in them; only a shelf that failed while the table was read excuses
  -- it
  pub frames : StopsExactly 8 FailsAtTable (asked_to_read job) over.shelf over.sink did.status
  -- 9: the batch is too long, or has too many statements or scans
  pub no_batch : StopsExactly 9 FailsAtEither (asked_to_read job) over.shelf over.sink did.status
  -- 0, 1 and 6, over every device: what the workers did
  pub worked : LeavesItsWorkOn job over did
  -- with 0, 1 and 6 there is one run, under the policy's name, or one for each policy, in their order; without a
  -- comparison no worker ran but with these and 7
  pub runs : LeavesRuns job did.status did.runs
  -- of a comparison: a line for each run is written, with 6 a prefix of them; with no policy nothing is read and
  -- nothing written
  pub lines : WritesLines job over did
  -- of a comparison with 1, over every device: a statement is unanswered in some run, since its text is refused, or a
  -- sum is no number of 64 bits, or its query was stopped, for the cause that the story tells of its scans or out of
  -- memory
  pub one : HasCauseOn job over did
  pub nothing : ComparesNothing job over did
  -- with every status: each fault of the stories joined in order has its own rise of the depot's count, and the depot's
  -- gets rose by their reads
  pub licensed : Licensed (is_some over.depot.old.held) over.depot.old.faults over.depot.new.faults
      (past (joined_story did.runs))
  pub reads : over.depot.new.gets ≡ over.depot.old.gets + reads (past (joined_story did.runs))
  -- over every device: what was decided, with its causes, and what of it was written
  pub decides : DecidesAndPrintsOn job over did
