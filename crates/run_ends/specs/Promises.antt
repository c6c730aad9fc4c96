-- What a run promises, by what it was asked for, its devices and what it did.
use Rattle.std.specs.Prelude.{◌≡◌, ◌≢◌, ◌≤◌, ◌+◌, ◌⊎◌, ℕ, List, [], Option, Some, None, Result, is_some}
use Rattle.coop_outside.specs.Causes.{Rose}
use Rattle.command_words.specs.Options.{Request}
use Rattle.scan_story.specs.Causes.{Licensed}
use Rattle.scan_story.specs.Spent.{reads}
use Rattle.scan_story.specs.Views.{past}
use Rattle.run_stops.specs.declared.stop.Stop.{Stop}
use Rattle.run_ends.specs.Deciding.{HasWorked, IsDecision}
use Rattle.run_ends.specs.Devices.{OverShelf, OverSink}
use Rattle.run_ends.specs.Running.{Text}
use Rattle.run_ends.specs.OverDevices.{AreFaultless, AreHonest, Devices}
use Rattle.run_ends.specs.Did.{Did, work_of}
use Rattle.run_ends.specs.Ending.{ComesExactly, FailsAtEither, FailsAtTable, HasStatus, Headline}
use Rattle.run_ends.specs.Ending.{IsCutShort, IsWritten, Prints, WritesAll, WritesForAnyParts, stop_over}

-- THE HEADLINE: with 0 and 1 over honest devices it holds of a text, and this text is written
abbrev pub KeepsHeadline : Option Request → Devices → Did → Type 0
KeepsHeadline asked over did = did.status ≤ 1 → (files : List ℕ → Option (List ℕ)) → AreHonest over files
    → (r : Request) → asked ≡ Some r
    → (text : List ℕ) × Headline r files (work_of over did) did.status text × IsWritten text over.sink

-- with 6 over honest devices it holds of a text, of which a front is written
abbrev pub KeepsHeadlineCut : Option Request → Devices → Did → Type 0
KeepsHeadlineCut asked over did = did.status ≡ 6 → (files : List ℕ → Option (List ℕ)) → AreHonest over files
    → (r : Request) → asked ≡ Some r
    → (ends : ℕ) × (text : List ℕ) × Headline r files (work_of over did) ends text × IsCutShort text over.sink

-- COMPLETENESS: where nothing refuses the run and no honest device counts a fault, all answers are written, and no
-- query is lost, but when out of memory
abbrev pub IsComplete : Option Request → Devices → Did → Type 0
IsComplete asked over did = (files : List ℕ → Option (List ℕ)) → AreHonest over files → (r : Request) → asked ≡ Some r
    → stop_over r files ≡ None → AreFaultless over
    → (did.status ≡ 7) ⊎ WritesAll r files (work_of over did) did.status over.sink

-- PARTS: with 0 and 1 over honest devices, where the depot counts no fault, the answers are those of any number of
-- parts, and each chunk that a query needs was delivered to exactly one of its scans; or memory ran out for a query
abbrev pub IsForAllParts : Option Request → Devices → Did → Type 0
IsForAllParts asked over did = did.status ≤ 1 → (files : List ℕ → Option (List ℕ)) → AreHonest over files
    → (r : Request) → asked ≡ Some r → (Rose over.depot.old.faults over.depot.new.faults → ⊥)
    → WritesForAnyParts r files (work_of over did) did.status over.sink

-- 2 exactly where the words are refused, unless out of memory
pub record IsUsageExactly (asked : Option Request) (status : ℕ) : Type 0 where
  pub only : status ≡ 2 → asked ≡ None
  pub always : asked ≡ None → (status ≡ 2) ⊎ (status ≡ 7)

-- how a shelf fails that excuses a status
abbrev pub Failing : Type 1
Failing = Request → OverShelf → OverSink → ℕ → Type 0

-- over a shelf that tells what it holds, this status exactly where the first stop in the order of the work has it,
-- unless out of memory and where the shelf failed so
abbrev pub StopsExactly : ℕ → Failing → Option Request → OverShelf → OverSink → ℕ → Type 0
StopsExactly due Fails asked shelf sink status = (files : List ℕ → Option (List ℕ)) → shelf.held ≡ Some files
    → (r : Request) → asked ≡ Some r
    → ComesExactly due (stop_over r files) (Fails r shelf sink status) status shelf

-- 4 only where the shelf failed, or lacks the name: at the table, or, where the table is accepted, at the batch; its
-- line says which
abbrev pub FailsToRead : Option Request → OverShelf → OverSink → ℕ → Type 0
FailsToRead asked shelf sink status = status ≡ 4 → (r : Request) → asked ≡ Some r → FailsAtEither r shelf sink status

-- 4, or out of memory 7, always where the shelf tells that it lacks the name, and nothing is refused before
abbrev pub MissesFile : Option Request → OverShelf → ℕ → Type 0
MissesFile asked shelf status = (files : List ℕ → Option (List ℕ)) → shelf.held ≡ Some files → (r : Request)
    → asked ≡ Some r → HasStatus 4 (stop_over r files) → (status ≡ 4) ⊎ (status ≡ 7)

-- with 0, 1 and 6, over every device: the story of the workers is legal, whole, undisturbed and bounded, and each scan
-- took just the chunks that it delivered, those of its part, each once, and all of them where it ended
abbrev pub LeavesItsWork : Option Request → Devices → Did → Type 0
LeavesItsWork asked over did = (did.status ≤ 1) ⊎ (did.status ≡ 6) → (r : Request) → asked ≡ Some r
    → HasWorked r over.shelf (work_of over did)

-- no worker ran but with 0, 1, 6 and 7
abbrev pub IsIdleElsewhere : Did → Type 0
IsIdleElsewhere did = 2 ≤ did.status → did.status ≢ 6 → did.status ≢ 7 → (did.story ≡ []) × (did.taken ≡ [])

-- what was decided over every device, with its causes, and what of it was written
abbrev pub DecidesAndPrints : Option Request → Devices → Did → Type 0
DecidesAndPrints asked over did = (d : Result Text Stop) × IsDecision asked over.shelf (work_of over did) d
    × Prints d did.status over.sink

-- WHAT A RUN PROMISES
pub record KeepsPromises (asked : Option Request) (over : Devices) (did : Did) : Type 0 where
  -- 0 and 1, THE HEADLINE: for every table, batch, number of workers and buffer of at least three frames per worker
  -- plus one, in every interleaving that ends, each query not refused prints its SQL meaning over the whole table; its
  -- scans took each chunk that it needs exactly once, from frames that nobody refilled meanwhile; and every recorded
  -- load, delivery and eviction was of greatest relevance among those the policy allowed
  pub headline : KeepsHeadline asked over did
  -- where nothing refuses the run and no device counts a fault, the answers are written, and no query is lost, unless
  -- out of memory
  pub complete : IsComplete asked over did
  -- the answers are those of any number of parts, and each chunk that a query needs was delivered to exactly one of its
  -- scans
  pub parts : IsForAllParts asked over did
  -- 2: the words are refused
  pub usage : IsUsageExactly asked did.status
  -- 3: the table is refused, or has too many chunks; only a shelf that failed while the table was read excuses it
  pub no_table : StopsExactly 3 FailsAtTable asked over.shelf over.sink did.status
  -- 4: the shelf failed, or lacks the name, at the batch only where the table is accepted; always where it tells that
  -- it lacks the name, and nothing is refused before
  pub read_fault : FailsToRead asked over.shelf over.sink did.status
  pub no_file : MissesFile asked over.shelf did.status
  -- 5: the depot failed while pieces were put
  pub put_fault : did.status ≡ 5 → Rose over.depot.old.faults over.depot.new.faults
  -- 6: the sink failed, and has a prefix of the output
  pub write_fault : did.status ≡ 6 → Rose over.sink.before over.sink.now
  pub cut : KeepsHeadlineCut asked over did
  -- 7: memory ran out, and nothing is written
  pub no_memory : did.status ≡ 7 → over.sink.new ≡ over.sink.old
  -- 8: there are too few frames, or too many words in them; only a shelf that failed while the table was read excuses
  -- it
  pub frames : StopsExactly 8 FailsAtTable asked over.shelf over.sink did.status
  -- 9: the batch is too long, or has too many statements or scans
  pub no_batch : StopsExactly 9 FailsAtEither asked over.shelf over.sink did.status
  -- 0, 1 and 6, over every device: what the workers did
  pub worked : LeavesItsWork asked over did
  -- no worker ran but with 0, 1, 6 and 7
  pub idle : IsIdleElsewhere did
  -- with every status: each fault of the story has its own rise of the depot's count, and the depot's gets rose by the
  -- story's reads
  pub licensed : Licensed (is_some over.depot.old.held) over.depot.old.faults over.depot.new.faults (past did.story)
  pub reads : over.depot.new.gets ≡ over.depot.old.gets + reads (past did.story)
  -- over every device: what was decided, with its causes, and what of it was written
  pub decides : DecidesAndPrints asked over did
