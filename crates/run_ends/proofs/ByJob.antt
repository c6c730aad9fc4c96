-- Each promise of a run with boxed policies, from what was decided on its job and what of it was written.
use Rattle.std.proofs.Common.{◌≡◌, ◌≢◌, ◌≤◌, ◌∙◌, ◌++◌, ℕ, List, [], ◌∷◌, map, Option, Some, None, Result, Ok, Err, refl, sym, ap, subst, arith, inl, inr, ◌⊎◌}
use Rattle.coop_outside.specs.Causes.{Rose}
use Rattle.command_words.specs.Options.{Request}
use Rattle.scan_story.specs.Views.{past}
use Rattle.scan_story.specs.declared.setting.PolicyName.{PolicyName}
use Rattle.scan_story.specs.declared.setting.PolicyName.TheVariants.{Relevance}
use Rattle.run_stops.specs.Stops.{status_of}
use Rattle.run_stops.specs.declared.stop.Stop.{Stop}
use Rattle.run_stops.specs.declared.stop.Stop.TheVariants as stop
use Rattle.run_inputs.specs.Ending.{AcceptsTable}
use Rattle.run_inputs.specs.Order.{first_stop}
use Rattle.run_inputs.specs.Sources.{batch_source, table_source, text_in}
use Rattle.run_inputs.proofs.Texts.{some-text}
use Rattle.batch_ends.specs.Lost.{Tells}
use Rattle.run_ends.specs.Deciding.{IsUsage, StopsBefore}
use Rattle.run_ends.specs.Devices.{DepotAt, OverShelf, OverSink}
use Rattle.run_ends.specs.Running.{Text}
use Rattle.run_ends.specs.Work.{Work}
use Rattle.run_ends.proofs.Stopping.{first-before}
use Rattle.run_ends.specs.Compared.{Compares, DoesNothing}
use Rattle.run_ends.specs.Compared as comparison
use Rattle.run_ends.specs.Lines.{lines_of}
use Rattle.run_ends.specs.Policies.{PolicyAt, policy_at}
use Rattle.run_ends.specs.Joined.{joined_story}
use Rattle.run_ends.proofs.DecidedRuns.{compared_tells, compared_writes}
use Rattle.run_ends.proofs.Joining as joining
use Rattle.run_ends.proofs.Unanswered.{one-cause}
use Rattle.run_ends.specs.Unanswered.{HasCause}
use Rattle.run_ends.specs.declared.policy_run.PolicyRun.{PolicyRun}
use Rattle.run_ends.specs.Boxed.{ComparesNothing, DecidesAndPrintsOn, DecidesOn, HasCauseOn, IsCompleteOn, IsForAllPartsOn, IsUndone, KeepsHeadlineCutOn, KeepsHeadlineOn, KeepsPromisesOn, LacksMemoryAtFirst, LeavesItsWorkOn, LeavesRuns, WritesLines}
use Rattle.run_ends.specs.Comparing.{AllHaveWorked, AreComplete, AreForAllParts, AreLines, Headlines, KeepsHeadlines, KeepsHeadlinesCut, Remark, for_any_parts, lost_for_memory, nothing_more}
use Rattle.run_ends.specs.OverDevices.{Devices}
use Rattle.run_ends.specs.Ending.{ComesExactly, FailsAtEither, FailsAtTable, HasStatus, IsCutShort, IsExcused, IsWritten, Prints, stop_over}
use Rattle.run_ends.specs.Jobs.{Job, refused, alone, compared, asked_in, asked_to_read}
use Rattle.run_ends.specs.Promises.{FailsToRead, IsUsageExactly, MissesFile, StopsExactly}
use Rattle.run_ends.specs.Runs.{AreOfEach, DidRuns, did_runs, did_under, work_under}
use Rattle.run_ends.proofs.Comparisons.{any-headlines, memory-headlines, parts-headlines, policy_name, run_name, runs-names, runs-small, runs-stop, runs-worked}
use Rattle.run_ends.proofs.Endings as ends
use Rattle.run_ends.proofs.Failing.{EndsFirst, Faulty, IsEarly, excused-early, excused-late, fails-at-batch, fails-at-table, fault-status, misses, stops-behind, stops-first}
use Rattle.run_ends.proofs.Endings.{IsRefused, early-refused, is-fault, is-memory, is-usage, late-status, memory-writes, no-change, refused-others, stopped-by, stops-late, text-told, write-fault-by}
use Rattle.run_ends.proofs.Runs.{none-of-one, untouched-under}
use Rattle.run_ends.proofs.Words.{memory-ends}

-- the devices by what each shows
abbrev devices_of : OverShelf → DepotAt → DepotAt → OverSink → Devices
devices_of shelf old new sink = record { shelf = shelf; depot = record { old = old; new = new }; sink = sink }

-- ---- the ends of a run

-- a stop comes with none of the statuses of an output
never-stops : (s : Stop) (status : ℕ) (sink : OverSink) → Prints (Err s) status sink → (status ≤ 1) ⊎ (status ≡ 6) → ⊥
never-stops s status sink (e, some) (inl low) = let late = (stops-late s).0 in omega (arith, e, low, late)
never-stops s status sink (e, some) (inr six) = (stops-late s).1 (sym e ∙ six)

small-ends : (o : Text) (status : ℕ) (sink : OverSink) → Prints (Ok o) status sink → status ≤ 1 → status ≡ o.0
small-ends o status sink (inl (e, all)) low = e
small-ends o status sink (inr (six, cut)) low = let no : ⊥ = omega (arith, six, low) in absurd no

-- ---- where the work stops for the words, or when out of memory, before anything is read

pub stops-job : (job : Job) (shelf : OverShelf) (old new : DepotAt) (runs : List PolicyRun) (s : Stop) → (s ≡ stop.Usage) ⊎ (s ≡ stop.Memory) → (s ≡ stop.Usage → job ≡ refused) → shelf.now ≡ shelf.before → new ≡ old → runs ≡ []
    → DecidesOn job shelf old new runs (Err s)
stops-job refused shelf old new runs s (inl usage) none unread same left = record { stop_is = inl (ap (λ (x : Stop). Err x) usage); depot = same; none = left }
stops-job refused shelf old new runs s (inr memory) none unread same left = record { stop_is = inr (ap (λ (x : Stop). Err x) memory); depot = same; none = left }
stops-job (alone r p) shelf old new runs s (inl usage) none unread same left = cc (none usage)
stops-job (alone r p) shelf old new runs s (inr memory) none unread same left = rw memory (memory-ends r shelf (work_under p old new runs) (untouched-under p old new runs same left))
stops-job (compared r ps) shelf old new runs s (inl usage) none unread same left = cc (none usage)
stops-job (compared r ps) shelf old new runs s (inr memory) none unread same left = inl (record { stop_is = ap (λ (x : Stop). Err x) memory; unread = unread; depot = same; none = left })

no-runs : (ps : List PolicyAt) (s : Stop) (status : ℕ) (sink : OverSink) (runs : List PolicyRun) → Prints (Err s) status sink → runs ≡ [] → AreOfEach ps status runs
no-runs ps s status sink runs prints left = rw left (record { without = map policy_name ps; named = refl; ran = λ ran. absurd (never-stops s status sink prints ran) })

pub none-left : (job : Job) (s : Stop) (status : ℕ) (sink : OverSink) (runs : List PolicyRun) → Prints (Err s) status sink → runs ≡ [] → LeavesRuns job status runs
none-left refused s status sink runs prints left = left
none-left (alone r p) s status sink runs prints left = none-of-one p s status sink runs prints left
none-left (compared r ps) s status sink runs prints left = no-runs ps s status sink runs prints left

-- ---- a comparison

-- with a policy to compare, out of memory at first ends the work before the first run
memory-compares : (r : Request) (shelf : OverShelf) (p : PolicyAt) (ps : List PolicyAt) (old new : DepotAt) (runs : List PolicyRun) (d : Result Text Stop) → LacksMemoryAtFirst shelf old new runs d
    → Compares r shelf (p ∷ ps) old new runs d
memory-compares r shelf p ps old new runs d lacks =
    let (table, table_is) = some-text shelf.held (table_source r.table) in
    let (batch, batch_is) = some-text shelf.held (batch_source r.batch) in
    rw lacks.stop_is (record {
      table = table;
      batch = batch;
      table_is = table_is;
      batch_is = batch_is;
      comes = inr (record { stops = inr (inl refl); depot = lacks.depot; none = lacks.none });
      table_fault = λ e. cc e;
      batch_fault = λ e. cc e;
      no_usage = λ e. cc e;
    })

compares-of : (r : Request) (shelf : OverShelf) (p : PolicyAt) (ps : List PolicyAt) (old new : DepotAt) (runs : List PolicyRun) (d : Result Text Stop) → DecidesOn (compared r (p ∷ ps)) shelf old new runs d
    → Compares r shelf (p ∷ ps) old new runs d
compares-of r shelf p ps old new runs d (inl lacks) = memory-compares r shelf p ps old new runs d lacks
compares-of r shelf p ps old new runs d (inr is) = is

-- where the shelf tells what it holds, the texts are those that it tells
compares-told : (r : Request) (files : List ℕ → Option (List ℕ)) (shelf : OverShelf) (ps : List PolicyAt) (old new : DepotAt) (runs : List PolicyRun) (d : Result Text Stop) → shelf.held ≡ Some files
    → Compares r shelf ps old new runs d → comparison.ComesTo r (text_in (table_source r.table) files) (text_in (batch_source r.batch) files) shelf ps old new runs d
compares-told r files shelf ps old new runs d held is =
    let table = text-told shelf.held files (table_source r.table) is.table held is.table_is in
    let batch = text-told shelf.held files (batch_source r.batch) is.batch held is.batch_is in
    subst (λ (t : Option (List ℕ)). comparison.ComesTo r t (text_in (batch_source r.batch) files) shelf ps old new runs d) table
    (subst (λ (b : Option (List ℕ)). comparison.ComesTo r is.table b shelf ps old new runs d) batch is.comes)

module _ (r : Request) (table batch : Option (List ℕ)) (shelf : OverShelf) (ps : List PolicyAt) (old new : DepotAt) (runs : List PolicyRun) where
  comes-small : (o : Text) → comparison.ComesTo r table batch shelf ps old new runs (Ok o) → o.0 ≤ 1
  comes-small o (inl (accepted, are)) = runs-small r table batch ps old new runs o are
  comes-small o (inr before) = absurd before.stops

  -- a status of a refusal comes of the first stop
  comes-only : (s : Stop) (due : ℕ) → IsRefused due → due ≡ status_of s → comparison.ComesTo r table batch shelf ps old new runs (Err s) → HasStatus due (first_stop r table batch)
  comes-only s due is_due by (inl (accepted, are)) = elim (runs-stop r table batch ps old new runs s are) [
    | inl memory ↦ absurd ((refused-others due is_due).0 (by ∙ ap status_of memory))
    | inr (piece, is, rose) ↦ absurd ((refused-others due is_due).1 (by ∙ ap status_of is))
  ]
  comes-only s due is_due by (inr before) = elim before.stops [
    | inl first ↦ (s, first, sym by)
    | inr (inl memory) ↦ absurd ((refused-others due is_due).0 (by ∙ ap status_of memory))
    | inr (inr (fault, rose)) ↦ absurd ((refused-others due is_due).2 (by ∙ fault-status r table s fault))
  ]

  -- where there is a first stop the work ends with its status, out of memory, or since the shelf failed
  comes-always : (d : Result Text Stop) (status : ℕ) (sink : OverSink) (due : ℕ) → comparison.ComesTo r table batch shelf ps old new runs d → Prints d status sink → HasStatus due (first_stop r table batch)
      → EndsFirst r table shelf d due status
  comes-always d status sink due (inl (accepted, are)) prints (t, first, by) = cc (accepted, first)
  comes-always (Ok o) status sink due (inr before) prints h = absurd before.stops
  comes-always (Err s) status sink due (inr before) prints h = stops-first r table batch shelf s status sink due before.stops prints h

  -- a fault of the batch comes behind a table that is accepted
  comes-behind : comparison.ComesTo r table batch shelf ps old new runs (Err stop.BatchFault) → AcceptsTable r table
  comes-behind (inl (accepted, are)) = elim (runs-stop r table batch ps old new runs stop.BatchFault are) [
    | inl memory ↦ cc memory
    | inr (piece, is, rose) ↦ cc is
  ]
  comes-behind (inr before) = stops-behind r table batch shelf before.stops

  -- where nothing refuses the runs and no device counts a fault, memory ran out
  comes-excused : (s : Stop) → first_stop r table batch ≡ None → (Rose shelf.before shelf.now → ⊥) → (Rose old.faults new.faults → ⊥) → comparison.ComesTo r table batch shelf ps old new runs (Err s) → s ≡ stop.Memory
  comes-excused s none no_read no_put (inl (accepted, are)) = elim (runs-stop r table batch ps old new runs s are) [
    | inl memory ↦ memory
    | inr (piece, is, rose) ↦ absurd (no_put rose)
  ]
  comes-excused s none no_read no_put (inr before) = elim before.stops [
    | inl first ↦ cc (none, first)
    | inr (inl memory) ↦ memory
    | inr (inr (fault, rose)) ↦ absurd (no_read rose)
  ]

  comes-rose : (s : Stop) → status_of s ≡ 5 → comparison.ComesTo r table batch shelf ps old new runs (Err s) → Rose old.faults new.faults
  comes-rose s five (inl (accepted, are)) = elim (runs-stop r table batch ps old new runs s are) [
    | inl memory ↦ cc (five, ap status_of memory)
    | inr (piece, is, rose) ↦ rose
  ]
  comes-rose s five (inr before) = elim before.stops [
    | inl first ↦ absurd (first-before r table batch s first five)
    | inr (inl memory) ↦ cc (five, ap status_of memory)
    | inr (inr (fault, rose)) ↦ cc (five, fault-status r table s fault)
  ]

compares-faulty : (r : Request) (shelf : OverShelf) (ps : List PolicyAt) (old new : DepotAt) (runs : List PolicyRun) (d : Result Text Stop) → Compares r shelf ps old new runs d → Faulty r shelf d
compares-faulty r shelf ps old new runs d is = record {
  table = is.table_fault;
  batch = is.batch_fault;
  behind = λ e. record {
    table = is.table;
    table_is = is.table_is;
    accepted = comes-behind r is.table is.batch shelf ps old new runs (subst (λ (x : Result Text Stop). comparison.ComesTo r is.table is.batch shelf ps old new runs x) e is.comes);
  };
}

-- with no policy to compare, nothing is decided but out of memory
nothing-stops : (r : Request) (shelf : OverShelf) (old new : DepotAt) (runs : List PolicyRun) (s : Stop) → DecidesOn (compared r []) shelf old new runs (Err s) → s ≡ stop.Memory
nothing-stops r shelf old new runs s (inl lacks) = cc lacks.stop_is
nothing-stops r shelf old new runs s (inr is) = cc is.writes

nothing-small : (r : Request) (shelf : OverShelf) (old new : DepotAt) (runs : List PolicyRun) (o : Text) → DecidesOn (compared r []) shelf old new runs (Ok o) → o.0 ≤ 1
nothing-small r shelf old new runs o (inl lacks) = cc lacks.stop_is
nothing-small r shelf old new runs o (inr is) = let e : o ≡ (0, []) = cc is.writes in rw e (omega arith)

compared-small : (r : Request) (shelf : OverShelf) (ps : List PolicyAt) (old new : DepotAt) (runs : List PolicyRun) (d : Result Text Stop) → DecidesOn (compared r ps) shelf old new runs d → (o : Text) → d ≡ Ok o → o.0 ≤ 1
compared-small r shelf [] old new runs d is o e = nothing-small r shelf old new runs o (subst (λ (x : Result Text Stop). DecidesOn (compared r []) shelf old new runs x) e is)
compared-small r shelf (p ∷ ps) old new runs d is o e =
    let compares = compares-of r shelf p ps old new runs d is in
    comes-small r compares.table compares.batch shelf (p ∷ ps) old new runs o (subst (λ (x : Result Text Stop). comparison.ComesTo r compares.table compares.batch shelf (p ∷ ps) old new runs x) e compares.comes)

-- what the workers did
none-worked : (r : Request) (shelf : OverShelf) (ps : List PolicyAt) (old : DepotAt) (runs : List PolicyRun) → runs ≡ [] → AllHaveWorked r ps shelf old runs
none-worked r shelf ps old runs none =
    let (table, table_is) = some-text shelf.held (table_source r.table) in
    let (batch, batch_is) = some-text shelf.held (batch_source r.batch) in
    record { table = table; batch = batch; table_is = table_is; batch_is = batch_is; worked = rw none tt }

compares-worked : (r : Request) (shelf : OverShelf) (ps : List PolicyAt) (old new : DepotAt) (runs : List PolicyRun) (d : Result Text Stop) → Compares r shelf ps old new runs d → AllHaveWorked r ps shelf old runs
compares-worked r shelf ps old new runs d is = record {
  table = is.table;
  batch = is.batch;
  table_is = is.table_is;
  batch_is = is.batch_is;
  worked = elim is.comes [
    | inl (accepted, are) ↦ runs-worked r is.table is.batch ps old new runs d are
    | inr before ↦ rw before.none tt
  ];
}

all-worked : (r : Request) (ps : List PolicyAt) (shelf : OverShelf) (old new : DepotAt) (runs : List PolicyRun) (d : Result Text Stop) → DecidesOn (compared r ps) shelf old new runs d → AllHaveWorked r ps shelf old runs
all-worked r ps shelf old new runs d (inl lacks) = none-worked r shelf ps old runs lacks.none
all-worked r [] shelf old new runs d (inr is) = none-worked r shelf [] old runs is.none
all-worked r (p ∷ ps) shelf old new runs d (inr is) = compares-worked r shelf (p ∷ ps) old new runs d is

-- what is written of a comparison
lines-of : (r : Request) (ps : List PolicyAt) (shelf : OverShelf) (old new : DepotAt) (runs : List PolicyRun) (o : Text) → DecidesOn (compared r ps) shelf old new runs (Ok o) → o.1 ≡ lines_of runs
lines-of r ps shelf old new runs o (inl lacks) = cc lacks.stop_is
lines-of r ps shelf old new runs o (inr is) = compared_writes r shelf ps old new runs o is

are-lines : (r : Request) (ps : List PolicyAt) (shelf : OverShelf) (old new : DepotAt) (runs : List PolicyRun) (d : Result Text Stop) (status : ℕ) (sink : OverSink) → DecidesOn (compared r ps) shelf old new runs d → Prints d status sink
    → AreLines runs status sink
are-lines r ps shelf old new runs (Ok o) status sink is (inl (e, all)) =
    let low = compared-small r shelf ps old new runs (Ok o) is o refl in
    record {
      all = λ _. subst (λ (t : List ℕ). IsWritten t sink) (lines-of r ps shelf old new runs o is) all;
      cut = λ six. let no : ⊥ = omega (arith, e, low, six) in absurd no;
    }
are-lines r ps shelf old new runs (Ok o) status sink is (inr (six, cut)) = record {
  all = λ low. let no : ⊥ = omega (arith, six, low) in absurd no;
  cut = λ _. subst (λ (t : List ℕ). IsCutShort t sink) (lines-of r ps shelf old new runs o is) cut;
}
are-lines r ps shelf old new runs (Err s) status sink is prints = record { all = λ low. absurd (never-stops s status sink prints (inl low)); cut = λ six. absurd (never-stops s status sink prints (inr six)) }

-- where there is nothing to write the sink is as it was
writes-none : (status : ℕ) (sink : OverSink) → Prints (Ok (0, [])) status sink → (status ≡ 0) × (sink.new ≡ sink.old)
writes-none status sink (inl (e, all)) = (e, all ∙ no-change sink.old)
writes-none status sink (inr (six, (k, less, part, rose))) = let no : ⊥ = omega (arith, less) in absurd no

nothing-left : (job : Job) (shelf : OverShelf) (old new : DepotAt) (runs : List PolicyRun) (d : Result Text Stop) (status : ℕ) (sink : OverSink) → DecidesOn job shelf old new runs d → Prints d status sink
    → ComparesNothing job (devices_of shelf old new sink) (did_runs status runs)
nothing-left refused shelf old new runs d status sink is prints = tt
nothing-left (alone r p) shelf old new runs d status sink is prints = tt
nothing-left (compared r (p ∷ ps)) shelf old new runs d status sink is prints = tt
nothing-left (compared r []) shelf old new runs d status sink (inl lacks) prints =
    let printed : Prints (Err stop.Memory) status sink = subst (λ (x : Result Text Stop). Prints x status sink) lacks.stop_is prints in
    record { status_is = inr printed.0; unread = lacks.unread; depot = lacks.depot; none = lacks.none; unwritten = memory-writes status sink printed }
nothing-left (compared r []) shelf old new runs d status sink (inr is) prints =
    let (zero_is, same) = writes-none status sink (subst (λ (x : Result Text Stop). Prints x status sink) is.writes prints) in
    record { status_is = inl zero_is; unread = is.unread; depot = is.depot; none = is.none; unwritten = same }

-- the headlines behind a text
nothing-runs : (r : Request) (shelf : OverShelf) (old new : DepotAt) (runs : List PolicyRun) (o : Text) → DecidesOn (compared r []) shelf old new runs (Ok o) → DoesNothing shelf old new runs (Ok o)
nothing-runs r shelf old new runs o (inl lacks) = cc lacks.stop_is
nothing-runs r shelf old new runs o (inr is) = is

module _ (r : Request) (files : List ℕ → Option (List ℕ)) (shelf : OverShelf) (held : shelf.held ≡ Some files) (old new : DepotAt) (runs : List PolicyRun) (o : Text) where
  headlines-none : (Holds : Remark r files) → DecidesOn (compared r []) shelf old new runs (Ok o) → Headlines r files Holds [] old new runs o.0
  headlines-none Holds is =
      let nothing = nothing-runs r shelf old new runs o is in
      let e : o ≡ (0, []) = cc nothing.writes in
      rw nothing.none (nothing.depot, ap (λ (x : Text). x.0) e)

  headlines-of : (ps : List PolicyAt) → DecidesOn (compared r ps) shelf old new runs (Ok o) → Tells old.held → Headlines r files (nothing_more r files) ps old new runs o.0
  headlines-of [] is tells = headlines-none (nothing_more r files) is
  headlines-of (p ∷ ps) is tells = elim (compares-told r files shelf (p ∷ ps) old new runs (Ok o) held (compares-of r shelf p ps old new runs (Ok o) is)) [
    | inl (accepted, are) ↦ any-headlines r files accepted (p ∷ ps) old new runs o are tells
    | inr before ↦ absurd before.stops
  ]

  memory-headlines-of : (ps : List PolicyAt) → DecidesOn (compared r ps) shelf old new runs (Ok o) → Tells old.held → (Rose old.faults new.faults → ⊥) → Headlines r files (lost_for_memory r files) ps old new runs o.0
  memory-headlines-of [] is tells calm = headlines-none (lost_for_memory r files) is
  memory-headlines-of (p ∷ ps) is tells calm = elim (compares-told r files shelf (p ∷ ps) old new runs (Ok o) held (compares-of r shelf p ps old new runs (Ok o) is)) [
    | inl (accepted, are) ↦ memory-headlines r files accepted (p ∷ ps) old new runs o are tells calm
    | inr before ↦ absurd before.stops
  ]

  parts-headlines-of : (ps : List PolicyAt) → DecidesOn (compared r ps) shelf old new runs (Ok o) → Tells old.held → (Rose old.faults new.faults → ⊥) → Headlines r files (for_any_parts r files) ps old new runs o.0
  parts-headlines-of [] is tells calm = headlines-none (for_any_parts r files) is
  parts-headlines-of (p ∷ ps) is tells calm = elim (compares-told r files shelf (p ∷ ps) old new runs (Ok o) held (compares-of r shelf p ps old new runs (Ok o) is)) [
    | inl (accepted, are) ↦ parts-headlines r files accepted (p ∷ ps) old new runs o are tells calm
    | inr before ↦ absurd before.stops
  ]

excused : (r : Request) (files : List ℕ → Option (List ℕ)) (shelf : OverShelf) (ps : List PolicyAt) (old new : DepotAt) (runs : List PolicyRun) (s : Stop) → DecidesOn (compared r ps) shelf old new runs (Err s) → shelf.held ≡ Some files
    → stop_over r files ≡ None → (Rose shelf.before shelf.now → ⊥) → (Rose old.faults new.faults → ⊥) → s ≡ stop.Memory
excused r files shelf [] old new runs s is held none no_read no_put = nothing-stops r shelf old new runs s is
excused r files shelf (p ∷ ps) old new runs s is held none no_read no_put =
    comes-excused r (text_in (table_source r.table) files) (text_in (batch_source r.batch) files) shelf (p ∷ ps) old new runs s none no_read no_put
    (compares-told r files shelf (p ∷ ps) old new runs (Err s) held (compares-of r shelf p ps old new runs (Err s) is))

module _ (r : Request) (ps : List PolicyAt) (shelf : OverShelf) (old new : DepotAt) (runs : List PolicyRun) where
  all-keep : (d : Result Text Stop) (status : ℕ) (sink : OverSink) → DecidesOn (compared r ps) shelf old new runs d → Prints d status sink → KeepsHeadlines r ps (devices_of shelf old new sink) (did_runs status runs)
  all-keep (Ok o) status sink is prints low files honest =
      (rw (small-ends o status sink prints low) (headlines-of r files shelf honest.shelf_tells old new runs o ps is honest.depot_tells), (are-lines r ps shelf old new runs (Ok o) status sink is prints).all low)
  all-keep (Err s) status sink is prints low files honest = absurd (never-stops s status sink prints (inl low))

  all-keep-cut : (d : Result Text Stop) (status : ℕ) (sink : OverSink) → DecidesOn (compared r ps) shelf old new runs d → Prints d status sink → KeepsHeadlinesCut r ps (devices_of shelf old new sink) (did_runs status runs)
  all-keep-cut (Ok o) status sink is prints six files honest = (o.0, headlines-of r files shelf honest.shelf_tells old new runs o ps is honest.depot_tells, (are-lines r ps shelf old new runs (Ok o) status sink is prints).cut six)
  all-keep-cut (Err s) status sink is prints six files honest = absurd (never-stops s status sink prints (inr six))

  all-for-parts : (d : Result Text Stop) (status : ℕ) (sink : OverSink) → DecidesOn (compared r ps) shelf old new runs d → Prints d status sink → AreForAllParts r ps (devices_of shelf old new sink) (did_runs status runs)
  all-for-parts (Ok o) status sink is prints low files honest calm = rw (small-ends o status sink prints low) (parts-headlines-of r files shelf honest.shelf_tells old new runs o ps is honest.depot_tells calm)
  all-for-parts (Err s) status sink is prints low files honest calm = absurd (never-stops s status sink prints (inl low))

  all-complete : (d : Result Text Stop) (status : ℕ) (sink : OverSink) → DecidesOn (compared r ps) shelf old new runs d → Prints d status sink → AreComplete r ps (devices_of shelf old new sink) (did_runs status runs)
  all-complete (Ok o) status sink is (inl (e, all)) files honest none faultless =
      let low = compared-small r shelf ps old new runs (Ok o) is o refl in
      inr (rw e (memory-headlines-of r files shelf honest.shelf_tells old new runs o ps is honest.depot_tells faultless.depot_is), (are-lines r ps shelf old new runs (Ok o) status sink is (inl (e, all))).all (omega (arith, e, low)))
  all-complete (Ok o) status sink is (inr (six, (k, less, part, rose))) files honest none faultless = absurd (faultless.sink_is rose)
  all-complete (Err s) status sink is (e, some) files honest none faultless =
      inl (e ∙ ap status_of (excused r files shelf ps old new runs s is honest.shelf_tells none faultless.shelf_is faultless.depot_is))

-- the runs that are left
named-in : (r : Request) (ps : List PolicyAt) (shelf : OverShelf) (old new : DepotAt) (runs : List PolicyRun) (d : Result Text Stop) → comparison.IsCompared r shelf ps old new runs d
    → (without : List PolicyName) × (map policy_name ps ≡ map run_name runs ++ without) × ((o : Text) → d ≡ Ok o → without ≡ [])
named-in r [] shelf old new runs d is = ([], rw is.none refl, λ o e. refl)
named-in r (p ∷ ps) shelf old new runs d is = elim is.comes [
  | inl (accepted, are) ↦ runs-names r is.table is.batch (p ∷ ps) old new runs d are
  | inr before ↦ (map policy_name (p ∷ ps), rw before.none refl, λ o e. absurd (subst (λ (x : Result Text Stop). StopsBefore r is.table is.batch shelf x) e before.stops))
]

pub are-of-each : (r : Request) (ps : List PolicyAt) (shelf : OverShelf) (old new : DepotAt) (runs : List PolicyRun) (d : Result Text Stop) (status : ℕ) (sink : OverSink) → comparison.IsCompared r shelf ps old new runs d → Prints d status sink
    → AreOfEach ps status runs
are-of-each r ps shelf old new runs (Ok o) status sink is prints = let (without, named, all) = named-in r ps shelf old new runs (Ok o) is in record { without = without; named = named; ran = λ ran. all o refl }
are-of-each r ps shelf old new runs (Err s) status sink is prints = let (without, named, all) = named-in r ps shelf old new runs (Err s) is in record { without = without; named = named; ran = λ ran. absurd (never-stops s status sink prints ran) }

writes-lines : (job : Job) (shelf : OverShelf) (old new : DepotAt) (runs : List PolicyRun) (d : Result Text Stop) (status : ℕ) (sink : OverSink) → DecidesOn job shelf old new runs d → Prints d status sink → WritesLines job (devices_of shelf old new sink) (did_runs status runs)
writes-lines refused shelf old new runs d status sink is prints = tt
writes-lines (alone r p) shelf old new runs d status sink is prints = tt
writes-lines (compared r ps) shelf old new runs d status sink is prints = are-lines r ps shelf old new runs d status sink is prints

-- 1 of a comparison has its cause
compared-one : (r : Request) (ps : List PolicyAt) (shelf : OverShelf) (old new : DepotAt) (runs : List PolicyRun) (d : Result Text Stop) (status : ℕ) (sink : OverSink) → DecidesOn (compared r ps) shelf old new runs d → Prints d status sink → status ≡ 1
    → HasCause r shelf ps old runs
compared-one r ps shelf old new runs (Err s) status sink is prints one = absurd (never-stops s status sink prints (inl (omega (arith, one))))
compared-one r ps shelf old new runs (Ok o) status sink (inl lacks) prints one = cc lacks.stop_is
compared-one r ps shelf old new runs (Ok o) status sink (inr is) prints one = let same = small-ends o status sink prints (omega (arith, one)) in one-cause r shelf ps old new runs o is (sym same ∙ one)

has-cause : (job : Job) (shelf : OverShelf) (old new : DepotAt) (runs : List PolicyRun) (d : Result Text Stop) (status : ℕ) (sink : OverSink) → DecidesOn job shelf old new runs d → Prints d status sink → HasCauseOn job (devices_of shelf old new sink) (did_runs status runs)
has-cause refused shelf old new runs d status sink is prints = tt
has-cause (alone r p) shelf old new runs d status sink is prints = tt
has-cause (compared r ps) shelf old new runs d status sink is prints = compared-one r ps shelf old new runs d status sink is prints

-- what holds of the depot's counts, whatever the job
none-tells : (old new : DepotAt) (runs : List PolicyRun) → new ≡ old → runs ≡ [] → joining.Tells old new (past (joined_story runs))
none-tells old new runs same none = rw (same, none) (record { licensed = omega arith; gets = omega arith })

job-tells : (job : Job) (shelf : OverShelf) (old new : DepotAt) (runs : List PolicyRun) (d : Result Text Stop) → DecidesOn job shelf old new runs d → joining.Tells old new (past (joined_story runs))
job-tells refused shelf old new runs d is = none-tells old new runs is.depot is.none
job-tells (alone r p) shelf old new runs d is = let counted = ends.is-counted (Some r) shelf (work_under p old new runs) d is in record { licensed = counted.licensed; gets = counted.reads }
job-tells (compared r ps) shelf old new runs d (inl lacks) = none-tells old new runs lacks.depot lacks.none
job-tells (compared r ps) shelf old new runs d (inr is) = compared_tells r shelf ps old new runs d is

-- ---- each clause, by the job

module _ (shelf : OverShelf) (old new : DepotAt) (runs : List PolicyRun) (d : Result Text Stop) (status : ℕ) (sink : OverSink) where
  -- the work of nobody, where nothing is done
  abbrev nobodys : Work
  nobodys = work_under (policy_at Relevance []) old new runs

  usage-of : IsUndone old new runs d → IsUsage nobodys d
  usage-of is = (is.stop_is, untouched-under (policy_at Relevance []) old new runs is.depot is.none)

  abbrev over : Devices
  over = devices_of shelf old new sink

  abbrev did : DidRuns
  did = did_runs status runs

  abbrev Decides : Job → Type 0
  Decides job = DecidesOn job shelf old new runs d

  keeps-headline : (job : Job) → Decides job → Prints d status sink → KeepsHeadlineOn job over did
  keeps-headline refused is prints = tt
  keeps-headline (alone r p) is prints = ends.keeps-headline (Some r) over (did_under p did) d is prints
  keeps-headline (compared r ps) is prints = all-keep r ps shelf old new runs d status sink is prints

  keeps-headline-cut : (job : Job) → Decides job → Prints d status sink → KeepsHeadlineCutOn job over did
  keeps-headline-cut refused is prints = tt
  keeps-headline-cut (alone r p) is prints = ends.keeps-headline-cut (Some r) over (did_under p did) d is prints
  keeps-headline-cut (compared r ps) is prints = all-keep-cut r ps shelf old new runs d status sink is prints

  is-complete : (job : Job) → Decides job → Prints d status sink → IsCompleteOn job over did
  is-complete refused is prints = tt
  is-complete (alone r p) is prints = ends.is-complete (Some r) over (did_under p did) d is prints
  is-complete (compared r ps) is prints = all-complete r ps shelf old new runs d status sink is prints

  is-for-all-parts : (job : Job) → Decides job → Prints d status sink → IsForAllPartsOn job over did
  is-for-all-parts refused is prints = tt
  is-for-all-parts (alone r p) is prints = ends.is-for-all-parts (Some r) over (did_under p did) d is prints
  is-for-all-parts (compared r ps) is prints = all-for-parts r ps shelf old new runs d status sink is prints

  leaves-its-work : (job : Job) → Decides job → Prints d status sink → LeavesItsWorkOn job over did
  leaves-its-work refused is prints = tt
  leaves-its-work (alone r p) is prints = ends.leaves-its-work (Some r) over (did_under p did) d is prints
  leaves-its-work (compared r ps) is prints = all-worked r ps shelf old new runs d is

  -- the stop behind a status that no output has
  stopped-compared : (r : Request) (ps : List PolicyAt) → Decides (compared r ps) → Prints d status sink → 2 ≤ status → status ≢ 6 → (s : Stop) × (d ≡ Err s) × (status ≡ status_of s)
  stopped-compared r ps is prints late other = stopped-by d status sink (compared-small r shelf ps old new runs d is) prints late other

  nothing-stopped : (r : Request) → Decides (compared r []) → Prints d status sink → 2 ≤ status → status ≢ 6 → status ≡ 7
  nothing-stopped r is prints late other =
      let (s, e, by) = stopped-compared r [] is prints late other in
      by ∙ ap status_of (nothing-stops r shelf old new runs s (subst (λ (x : Result Text Stop). DecidesOn (compared r []) shelf old new runs x) e is))

  is-usage-exactly : (job : Job) → Decides job → Prints d status sink → IsUsageExactly (asked_in job) status
  is-usage-exactly refused is prints = ends.is-usage-exactly None shelf nobodys d status sink (usage-of is) prints
  is-usage-exactly (alone r p) is prints = ends.is-usage-exactly (Some r) shelf (work_under p old new runs) d status sink is prints
  is-usage-exactly (compared r []) is prints = record {
    only = λ two. cc (two, nothing-stopped r is prints (omega (arith, two)) (λ h. cc (h, two)));
    always = λ none. cc none;
  }
  is-usage-exactly (compared r (p ∷ ps)) is prints = record {
    only = λ two.
        let (s, e, by) = stopped-compared r (p ∷ ps) is prints (omega (arith, two)) (λ h. cc (h, two)) in
        absurd ((compares-of r shelf p ps old new runs d is).no_usage (e ∙ ap (λ (x : Stop). Err x) (is-usage s (sym by ∙ two))));
    always = λ none. cc none;
  }

  comes-for : (r : Request) (files : List ℕ → Option (List ℕ)) (p : PolicyAt) (ps : List PolicyAt) → Decides (compared r (p ∷ ps)) → shelf.held ≡ Some files
      → comparison.ComesTo r (text_in (table_source r.table) files) (text_in (batch_source r.batch) files) shelf (p ∷ ps) old new runs d
  comes-for r files p ps is held = compares-told r files shelf (p ∷ ps) old new runs d held (compares-of r shelf p ps old new runs d is)

  faulty-for : (r : Request) (p : PolicyAt) (ps : List PolicyAt) → Decides (compared r (p ∷ ps)) → Faulty r shelf d
  faulty-for r p ps is = compares-faulty r shelf (p ∷ ps) old new runs d (compares-of r shelf p ps old new runs d is)

  -- 3, 8 and 9 of a comparison, by what excuses them
  compared-exactly : (due : ℕ) → IsRefused due → (Fails : Type 0) (r : Request) (p : PolicyAt) (ps : List PolicyAt) → Decides (compared r (p ∷ ps)) → Prints d status sink → (files : List ℕ → Option (List ℕ)) → shelf.held ≡ Some files
      → (HasStatus due (stop_over r files) → EndsFirst r (text_in (table_source r.table) files) shelf d due status → (status ≡ due) ⊎ IsExcused Fails status shelf) → ComesExactly due (stop_over r files) Fails status shelf
  compared-exactly due is_due Fails r p ps is prints files held excuse =
      let table = text_in (table_source r.table) files in
      let batch = text_in (batch_source r.batch) files in
      let comes = comes-for r files p ps is held in
      let late = late-status due is_due in
      record {
        only = λ e. let (s, d_is, by) = stopped-compared r (p ∷ ps) is prints (omega (arith, e, late.0)) (λ h. late.1 (sym e ∙ h)) in
            comes-only r table batch shelf (p ∷ ps) old new runs s due is_due (sym e ∙ by) (subst (λ (x : Result Text Stop). comparison.ComesTo r table batch shelf (p ∷ ps) old new runs x) d_is comes);
        always = λ h. excuse h (comes-always r table batch shelf (p ∷ ps) old new runs d status sink due comes prints h);
      }

  compared-early : (due : ℕ) → IsEarly due → (r : Request) (p : PolicyAt) (ps : List PolicyAt) → Decides (compared r (p ∷ ps)) → Prints d status sink → (files : List ℕ → Option (List ℕ)) → shelf.held ≡ Some files
      → ComesExactly due (stop_over r files) (FailsAtTable r shelf sink status) status shelf
  compared-early due early r p ps is prints files held =
      compared-exactly due (early-refused due early) (FailsAtTable r shelf sink status) r p ps is prints files held
      (λ h ends. excused-early r (text_in (table_source r.table) files) (text_in (batch_source r.batch) files) shelf d status sink due (faulty-for r p ps is) prints early h ends)

  compared-at-batch : (r : Request) (p : PolicyAt) (ps : List PolicyAt) → Decides (compared r (p ∷ ps)) → Prints d status sink → (files : List ℕ → Option (List ℕ)) → shelf.held ≡ Some files
      → ComesExactly 9 (stop_over r files) (FailsAtEither r shelf sink status) status shelf
  compared-at-batch r p ps is prints files held =
      compared-exactly 9 (inr (inr refl)) (FailsAtEither r shelf sink status) r p ps is prints files held
      (λ h ends. excused-late r (text_in (table_source r.table) files) shelf d status sink 9 (faulty-for r p ps is) prints ends)

  stops-early : (due : ℕ) → IsEarly due → (job : Job) → Decides job → Prints d status sink → StopsExactly due FailsAtTable (asked_to_read job) shelf sink status
  stops-early due early refused is prints files held q for = ends.stops-early due early None shelf nobodys d status sink (usage-of is) prints files held q for
  stops-early due early (alone r p) is prints files held q for = ends.stops-early due early (Some r) shelf (work_under p old new runs) d status sink is prints files held q for
  stops-early due early (compared r []) is prints files held q for = cc for
  stops-early due early (compared r (p ∷ ps)) is prints files held q for =
      let same : r ≡ q = cc for in
      subst (λ (x : Request). ComesExactly due (stop_over x files) (FailsAtTable x shelf sink status) status shelf) same (compared-early due early r p ps is prints files held)

  stops-at-batch : (job : Job) → Decides job → Prints d status sink → StopsExactly 9 FailsAtEither (asked_to_read job) shelf sink status
  stops-at-batch refused is prints files held q for = ends.stops-at-batch None shelf nobodys d status sink (usage-of is) prints files held q for
  stops-at-batch (alone r p) is prints files held q for = ends.stops-at-batch (Some r) shelf (work_under p old new runs) d status sink is prints files held q for
  stops-at-batch (compared r []) is prints files held q for = cc for
  stops-at-batch (compared r (p ∷ ps)) is prints files held q for =
      let same : r ≡ q = cc for in
      subst (λ (x : Request). ComesExactly 9 (stop_over x files) (FailsAtEither x shelf sink status) status shelf) same (compared-at-batch r p ps is prints files held)

  compared-misses : (r : Request) (p : PolicyAt) (ps : List PolicyAt) → Decides (compared r (p ∷ ps)) → Prints d status sink → (files : List ℕ → Option (List ℕ)) → shelf.held ≡ Some files → HasStatus 4 (stop_over r files)
      → (status ≡ 4) ⊎ (status ≡ 7)
  compared-misses r p ps is prints files held h =
      let table = text_in (table_source r.table) files in
      misses r table shelf d status sink prints (comes-always r table (text_in (batch_source r.batch) files) shelf (p ∷ ps) old new runs d status sink 4 (comes-for r files p ps is held) prints h)

  misses-file : (job : Job) → Decides job → Prints d status sink → MissesFile (asked_to_read job) shelf status
  misses-file refused is prints files held q for h = ends.misses-file None shelf nobodys d status sink (usage-of is) prints files held q for h
  misses-file (alone r p) is prints files held q for h = ends.misses-file (Some r) shelf (work_under p old new runs) d status sink is prints files held q for h
  misses-file (compared r []) is prints files held q for h = cc for
  misses-file (compared r (p ∷ ps)) is prints files held q for h =
      let same : q ≡ r = cc for in
      compared-misses r p ps is prints files held (subst (λ (x : Request). HasStatus 4 (stop_over x files)) same h)

  fails-to-read : (job : Job) → Decides job → Prints d status sink → FailsToRead (asked_to_read job) shelf sink status
  fails-to-read refused is prints four q for = ends.fails-to-read None shelf nobodys d status sink (usage-of is) prints four q for
  fails-to-read (alone r p) is prints four q for = ends.fails-to-read (Some r) shelf (work_under p old new runs) d status sink is prints four q for
  fails-to-read (compared r []) is prints four q for = cc for
  fails-to-read (compared r (p ∷ ps)) is prints four q for =
      let same : r ≡ q = cc for in
      let (s, e, by) = stopped-compared r (p ∷ ps) is prints (omega (arith, four)) (λ h. cc (h, four)) in
      let faulty = faulty-for r p ps is in
      subst (λ (x : Request). FailsAtEither x shelf sink status) same
      (elim (is-fault s (sym by ∙ four)) [
        | inl table ↦ inl (fails-at-table r shelf d status sink faulty prints (e ∙ ap (λ (x : Stop). Err x) table))
        | inr batch ↦ inr (fails-at-batch r shelf d status sink faulty prints (e ∙ ap (λ (x : Stop). Err x) batch))
      ])

  put-fault-of : (job : Job) → Decides job → Prints d status sink → status ≡ 5 → Rose old.faults new.faults
  put-fault-of refused is prints five = ends.put-fault-of None shelf nobodys d status sink (usage-of is) prints five
  put-fault-of (alone r p) is prints five = ends.put-fault-of (Some r) shelf (work_under p old new runs) d status sink is prints five
  put-fault-of (compared r []) is prints five = cc (five, nothing-stopped r is prints (omega (arith, five)) (λ h. cc (h, five)))
  put-fault-of (compared r (p ∷ ps)) is prints five =
      let (s, e, by) = stopped-compared r (p ∷ ps) is prints (omega (arith, five)) (λ h. cc (h, five)) in
      let compares = compares-of r shelf p ps old new runs d is in
      comes-rose r compares.table compares.batch shelf (p ∷ ps) old new runs s (sym by ∙ five) (subst (λ (x : Result Text Stop). comparison.ComesTo r compares.table compares.batch shelf (p ∷ ps) old new runs x) e compares.comes)

  write-fault-of : (job : Job) → Decides job → Prints d status sink → status ≡ 6 → Rose sink.before sink.now
  write-fault-of refused is prints = ends.write-fault-of None shelf nobodys d status sink (usage-of is) prints
  write-fault-of (alone r p) is prints = ends.write-fault-of (Some r) shelf (work_under p old new runs) d status sink is prints
  write-fault-of (compared r ps) is prints = write-fault-by d status sink (compared-small r shelf ps old new runs d is) prints

  no-memory-of : (job : Job) → Decides job → Prints d status sink → status ≡ 7 → sink.new ≡ sink.old
  no-memory-of refused is prints seven = ends.no-memory-of None shelf nobodys d status sink (usage-of is) prints seven
  no-memory-of (alone r p) is prints seven = ends.no-memory-of (Some r) shelf (work_under p old new runs) d status sink is prints seven
  no-memory-of (compared r ps) is prints seven =
      let (s, e, by) = stopped-compared r ps is prints (omega (arith, seven)) (λ h. cc (h, seven)) in
      let memory : d ≡ Err stop.Memory = e ∙ ap (λ (x : Stop). Err x) (is-memory s (sym by ∙ seven)) in
      memory-writes status sink (subst (λ (x : Result Text Stop). Prints x status sink) memory prints)

  -- EVERY PROMISE, of what was decided and written and of the runs that are left
  keeps-all : (job : Job) → Decides job → Prints d status sink → LeavesRuns job status runs → KeepsPromisesOn job over did
  keeps-all job is prints left =
      let counted = job-tells job shelf old new runs d is in
      record {
        headline = keeps-headline job is prints;
        complete = is-complete job is prints;
        parts = is-for-all-parts job is prints;
        usage = is-usage-exactly job is prints;
        no_table = stops-early 3 (inl refl) job is prints;
        read_fault = fails-to-read job is prints;
        no_file = misses-file job is prints;
        put_fault = put-fault-of job is prints;
        write_fault = write-fault-of job is prints;
        cut = keeps-headline-cut job is prints;
        no_memory = no-memory-of job is prints;
        frames = stops-early 8 (inr refl) job is prints;
        no_batch = stops-at-batch job is prints;
        worked = leaves-its-work job is prints;
        runs = left;
        lines = writes-lines job shelf old new runs d status sink is prints;
        one = has-cause job shelf old new runs d status sink is prints;
        nothing = nothing-left job shelf old new runs d status sink is prints;
        licensed = counted.licensed;
        reads = counted.gets;
        decides = (d, is, prints);
      }

pub keeps-promises : (job : Job) (over : Devices) (did : DidRuns) → DecidesAndPrintsOn job over did → LeavesRuns job did.status did.runs → KeepsPromisesOn job over did
keeps-promises job over did (d, is, prints) left = keeps-all over.shelf over.depot.old over.depot.new did.runs d did.status over.sink job is prints left
