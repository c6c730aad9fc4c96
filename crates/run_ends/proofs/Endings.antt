-- Each promise of a run, from what was decided and what of it was written.
use Rattle.std.proofs.Common.{◌≡◌, ◌≢◌, ◌≤◌, ◌∙◌, ◌+◌, ℕ, Bool, true, false, List, [], length, Option, Some, None, Result, Ok, Err, refl, sym, ap, subst, cond, inl, inr, ◌⊎◌, arith}
use Rattle.std.specs.Prelude.{is_some}
use Rattle.std.specs.List.{AllByRecursion, list_all}
use Rattle.std.proofs.lemmas.List.{append-nil}
use Rattle.std.proofs.lemmas.List.Elements.{All-from_recursion}
use Rattle.command_words.specs.Options.{Request}
use Rattle.coop_outside.specs.Causes.{Rose}
use Rattle.coop_outside.specs.Held.{Held}
use Rattle.coop_outside.specs.Taken.{grown}
use Rattle.csv_load.specs.Rows.{table_records}
use Rattle.run_stops.specs.Stops.{status_of}
use Rattle.run_stops.specs.declared.stop.Stop.{Stop}
use Rattle.run_stops.specs.declared.stop.Stop.TheVariants as stop
use Rattle.scan_story.specs.Causes.{Licensed}
use Rattle.scan_story.specs.Spent.{reads}
use Rattle.scan_story.specs.Views.{past}
use Rattle.run_inputs.specs.Ending.{AcceptsTable, IsTextOf}
use Rattle.run_inputs.specs.Order.{first_stop}
use Rattle.run_inputs.specs.Sources.{Source, made, stored, batch_source, table_source, text_in}
use Rattle.run_inputs.specs.Statements.{statements_in}
use Rattle.batch_ends.specs.Lost.{Tells}
use Rattle.run_output.specs.Answers.{printed}
use Rattle.run_output.specs.Outcomes.{losses}
use Rattle.run_output.specs.Output.{PrintEach}
use Rattle.run_output.specs.Printed.{Printed, is_answered, output, status}
use Rattle.run_ends.specs.Deciding.{ComesTo, HasWorked, IsDecided, IsDecision, IsUntouched, Runs}
use Rattle.run_ends.specs.Devices.{DepotAt, OverShelf, OverSink}
use Rattle.run_ends.specs.Losses.{OnlyForMemory}
use Rattle.run_ends.specs.Running.{IsIdle, Text}
use Rattle.run_ends.specs.Tasks.{totals_of, trace_of}
use Rattle.run_ends.specs.Work.{Work}
use Rattle.run_ends.proofs.GivenTexts.{rows-same}
use Rattle.run_ends.proofs.Stopping.{first-before}
use Rattle.run_ends.specs.Ending.{ComesExactly, FailsAtEither, FailsAtTable, HasStatus, Headline, IsExcused, Prints, stop_over, values_of}
use Rattle.run_ends.specs.OverDevices.{AreHonest, Devices}
use Rattle.run_ends.specs.Did.{Did, work_of}
use Rattle.run_ends.specs.Promises.{DecidesAndPrints, FailsToRead, IsComplete, IsForAllParts, IsIdleElsewhere, IsUsageExactly, KeepsHeadline, KeepsHeadlineCut, KeepsPromises, LeavesItsWork, MissesFile, StopsExactly}
use Rattle.run_ends.proofs.Failing.{EndsFirst, Faulty, IsEarly, excused-early, excused-late, fails-at-batch, fails-at-table, fault-status, misses, stops-behind, stops-first}
use Rattle.run_ends.proofs.Losses.{only-memory}
use Rattle.run_ends.proofs.Parts.{for-any-parts}

-- ---- stops by their statuses

-- the statuses of refusals
abbrev pub IsRefused : ℕ → Type 0
IsRefused n = (n ≡ 3) ⊎ (n ≡ 8) ⊎ (n ≡ 9)

kinds : (s : Stop) → (s ≡ stop.Usage) ⊎ (s ≡ stop.Memory) ⊎ (s ≡ stop.TableFault) ⊎ (s ≡ stop.BatchFault) ⊎ (status_of s ≡ 5) ⊎ IsRefused (status_of s)
kinds stop.Usage = inl refl
kinds stop.TableTooLong = inr (inr (inr (inr (inr (inl refl)))))
kinds stop.NoHeader = inr (inr (inr (inr (inr (inl refl)))))
kinds (stop.Columns columns) = inr (inr (inr (inr (inr (inl refl)))))
kinds (stop.LongName column) = inr (inr (inr (inr (inr (inl refl)))))
kinds (stop.TwiceNamed first second) = inr (inr (inr (inr (inr (inl refl)))))
kinds (stop.Ragged row fields) = inr (inr (inr (inr (inr (inl refl)))))
kinds stop.TooManyRows = inr (inr (inr (inr (inr (inl refl)))))
kinds (stop.Chunks chunks) = inr (inr (inr (inr (inr (inl refl)))))
kinds stop.TableFault = inr (inr (inl refl))
kinds stop.BatchFault = inr (inr (inr (inl refl)))
kinds (stop.NotStored piece) = inr (inr (inr (inr (inl refl))))
kinds (stop.FramesNeeded frames) = inr (inr (inr (inr (inr (inr (inl refl))))))
kinds (stop.FrameWords words) = inr (inr (inr (inr (inr (inr (inl refl))))))
kinds stop.BatchTooLong = inr (inr (inr (inr (inr (inr (inr refl))))))
kinds (stop.Statements statements) = inr (inr (inr (inr (inr (inr (inr refl))))))
kinds (stop.Scans scans) = inr (inr (inr (inr (inr (inr (inr refl))))))
kinds stop.Memory = inr (inl refl)

pub stops-late : (s : Stop) → (2 ≤ status_of s) × (status_of s ≢ 6)
stops-late s = elim (kinds s) [
  | inl e ↦ rw e (omega arith, λ h. cc h)
  | inr (inl e) ↦ rw e (omega arith, λ h. cc h)
  | inr (inr (inl e)) ↦ rw e (omega arith, λ h. cc h)
  | inr (inr (inr (inl e))) ↦ rw e (omega arith, λ h. cc h)
  | inr (inr (inr (inr (inl e)))) ↦ rw e (omega arith, λ h. cc h)
  | inr (inr (inr (inr (inr (inl e))))) ↦ rw e (omega arith, λ h. cc h)
  | inr (inr (inr (inr (inr (inr (inl e)))))) ↦ rw e (omega arith, λ h. cc h)
  | inr (inr (inr (inr (inr (inr (inr e)))))) ↦ rw e (omega arith, λ h. cc h)
]

-- a stop of a status that no refusal has
pub is-usage : (s : Stop) → status_of s ≡ 2 → s ≡ stop.Usage
is-usage s h = elim (kinds s) [
  | inl e ↦ e
  | inr (inl e) ↦ cc (h, ap status_of e)
  | inr (inr (inl e)) ↦ cc (h, ap status_of e)
  | inr (inr (inr (inl e))) ↦ cc (h, ap status_of e)
  | inr (inr (inr (inr (inl e)))) ↦ cc (h, e)
  | inr (inr (inr (inr (inr (inl e))))) ↦ cc (h, e)
  | inr (inr (inr (inr (inr (inr (inl e)))))) ↦ cc (h, e)
  | inr (inr (inr (inr (inr (inr (inr e)))))) ↦ cc (h, e)
]

pub is-memory : (s : Stop) → status_of s ≡ 7 → s ≡ stop.Memory
is-memory s h = elim (kinds s) [
  | inl e ↦ cc (h, ap status_of e)
  | inr (inl e) ↦ e
  | inr (inr (inl e)) ↦ cc (h, ap status_of e)
  | inr (inr (inr (inl e))) ↦ cc (h, ap status_of e)
  | inr (inr (inr (inr (inl e)))) ↦ cc (h, e)
  | inr (inr (inr (inr (inr (inl e))))) ↦ cc (h, e)
  | inr (inr (inr (inr (inr (inr (inl e)))))) ↦ cc (h, e)
  | inr (inr (inr (inr (inr (inr (inr e)))))) ↦ cc (h, e)
]

pub is-fault : (s : Stop) → status_of s ≡ 4 → (s ≡ stop.TableFault) ⊎ (s ≡ stop.BatchFault)
is-fault s h = elim (kinds s) [
  | inl e ↦ cc (h, ap status_of e)
  | inr (inl e) ↦ cc (h, ap status_of e)
  | inr (inr (inl e)) ↦ inl e
  | inr (inr (inr (inl e))) ↦ inr e
  | inr (inr (inr (inr (inl e)))) ↦ cc (h, e)
  | inr (inr (inr (inr (inr (inl e))))) ↦ cc (h, e)
  | inr (inr (inr (inr (inr (inr (inl e)))))) ↦ cc (h, e)
  | inr (inr (inr (inr (inr (inr (inr e)))))) ↦ cc (h, e)
]

-- ---- what is written

pub no-change : (old : Option (List ℕ)) → grown old [] ≡ old
no-change None = refl
no-change (Some t) = ap Some (append-nil t)

-- when out of memory nothing is written
pub memory-writes : (status : ℕ) (sink : OverSink) → Prints (Err stop.Memory) status sink → sink.new ≡ sink.old
memory-writes status sink (is, inl all) = all ∙ no-change sink.old
memory-writes status sink (is, inr (k, less, part, rose)) = let no : ⊥ = omega (arith, less) in absurd no

-- ---- what is decided

small : (b : Bool) → cond b 0 1 ≤ 1
small true = omega arith
small false = omega arith

pub status-small : (ps : List Printed) → status ps ≤ 1
status-small ps = small (list_all is_answered ps)

decided-small : (r : Request) (table batch : Option (List ℕ)) (shelf : OverShelf) (w : Work) (o : Text) → ComesTo r table batch shelf w (Ok o) → o.0 ≤ 1
decided-small r table batch shelf w o (inl runs) = rw runs.comes.prints
    (status-small (printed runs.given.loaded.table.columns runs.given.loaded.dicts.items 1 runs.given.outcomes.items runs.comes.answers))
decided-small r table batch shelf w o (inr (never, untouched)) = absurd never

decision-small : (asked : Option Request) (shelf : OverShelf) (w : Work) (o : Text) → IsDecision asked shelf w (Ok o) → o.0 ≤ 1
decision-small None shelf w o (inl h, untouched) = cc h
decision-small None shelf w o (inr h, untouched) = cc h
decision-small (Some r) shelf w o is = decided-small r is.table is.batch shelf w o is.comes

-- a status that no output has and that is not 6 is that of a stop
pub stopped-by : (d : Result Text Stop) (status : ℕ) (sink : OverSink) → ((o : Text) → d ≡ Ok o → o.0 ≤ 1) → Prints d status sink → 2 ≤ status → status ≢ 6 → (s : Stop) × (d ≡ Err s) × (status ≡ status_of s)
stopped-by (Ok o) status sink small (inl (e, all)) late other = let low = small o refl in let no : ⊥ = omega (arith, e, low, late) in absurd no
stopped-by (Ok o) status sink small (inr (six, cut)) late other = absurd (other six)
stopped-by (Err s) status sink small (e, some) late other = (s, refl, e)

stopped : (asked : Option Request) (shelf : OverShelf) (w : Work) (d : Result Text Stop) (status : ℕ) (sink : OverSink) → IsDecision asked shelf w d
    → Prints d status sink → 2 ≤ status → status ≢ 6 → (s : Stop) × (d ≡ Err s) × (status ≡ status_of s)
stopped asked shelf w d status sink is prints late other =
    stopped-by d status sink (λ o e. decision-small asked shelf w o (subst (λ (x : Result Text Stop). IsDecision asked shelf w x) e is)) prints late other

-- 6 comes where the sink failed
pub write-fault-by : (d : Result Text Stop) (status : ℕ) (sink : OverSink) → ((o : Text) → d ≡ Ok o → o.0 ≤ 1) → Prints d status sink → status ≡ 6 → Rose sink.before sink.now
write-fault-by (Ok o) status sink small (inl (e, all)) six = let low = small o refl in let no : ⊥ = omega (arith, e, low, six) in absurd no
write-fault-by (Ok o) status sink small (inr (e, (k, less, part, rose))) six = rose
write-fault-by (Err s) status sink small (e, some) six = absurd ((stops-late s).1 (sym e ∙ six))

-- where the shelf tells what it holds, a text is the one that it tells
pub text-told : (held : Held) (files : List ℕ → Option (List ℕ)) (source : Source) (t : Option (List ℕ)) → held ≡ Some files → IsTextOf held source t → t ≡ text_in source files
text-told held files (made text) t h is = is
text-told held files (stored name) None h is = let e : ◌≡◌ {A = Option (Option (List ℕ))} (Some (files name)) (Some None) = rw h at is in cc e
text-told held files (stored name) (Some text) h is = sym (is (files name) (rw h refl))

comes-told : (r : Request) (files : List ℕ → Option (List ℕ)) (shelf : OverShelf) (w : Work) (d : Result Text Stop) → shelf.held ≡ Some files
    → IsDecided r shelf w d → ComesTo r (text_in (table_source r.table) files) (text_in (batch_source r.batch) files) shelf w d
comes-told r files shelf w d h is =
    let table = text-told shelf.held files (table_source r.table) is.table h is.table_is in
    let batch = text-told shelf.held files (batch_source r.batch) is.batch h is.batch_is in
    subst (λ (t : Option (List ℕ)). ComesTo r t (text_in (batch_source r.batch) files) shelf w d) table
    (subst (λ (b : Option (List ℕ)). ComesTo r is.table b shelf w d) batch is.comes)

decided-for : (asked : Option Request) (r : Request) (shelf : OverShelf) (w : Work) (d : Result Text Stop) → asked ≡ Some r → IsDecision asked shelf w d → IsDecided r shelf w d
decided-for asked r shelf w d h is = subst (λ (a : Option Request). IsDecision a shelf w d) h is

-- ---- the headline

-- a batch that ran over a depot that tells its pieces gives the output over the table's values
pub headline-of : (r : Request) (files : List ℕ → Option (List ℕ)) (w : Work) (o : Text) → Tells w.old.held → Runs r (text_in (table_source r.table) files) (text_in (batch_source r.batch) files) w (Ok o)
    → Headline r files w o.0 o.1
headline-of r files w o tells runs =
    let i = runs.given in
    let is = runs.is_given in
    let run = runs.comes in
    let table = is.table_is.bytes in
    let batch = is.batch_is.bytes in
    let loaded = is.table_is.loaded in
    let values = values_of table in
    let statements = statements_in batch in
    let lost = losses i.outcomes.items run.answers in
    let m = run.means tells statements is.batch_is.come in
    let rows = rows-same (table_records table) i.loaded.table i.loaded.dicts.items loaded in
    let totals : totals_of i.summary w.story (length i.loaded.table.rows) ≡ totals_of r.summary w.story (length values.rows) = rw (is.summary, rows) refl in
    let trace : trace_of i.trace w.story ≡ trace_of r.trace w.story = rw is.trace refl in
    record {
      table = table;
      table_is = is.table_is.text_is;
      batch = batch;
      batch_is = is.batch_is.text_is;
      given = i;
      is_given = rw (is.table_is.text_is, is.batch_is.text_is) at is;
      losses = lost;
      lost = rw is.parts at run.are.lost;
      output = record {
        printed = m.printed;
        each = subst (λ cs. PrintEach cs values.rows 1 statements lost m.printed) loaded.columns
            (subst (λ rs. PrintEach i.loaded.table.columns rs 1 statements lost m.printed) loaded.rows m.each);
        bytes = m.bytes ∙ ap (λ t. output m.printed t (trace_of i.trace w.story)) totals ∙ ap (output m.printed (totals_of r.summary w.story (length values.rows))) trace;
        status = m.status;
      };
      worked = run.are.worked;
    }

headline-told : (asked : Option Request) (r : Request) (files : List ℕ → Option (List ℕ)) (over : Devices) (did : Did) (o : Text) → IsDecision asked over.shelf (work_of over did) (Ok o) → AreHonest over files
    → asked ≡ Some r → Headline r files (work_of over did) o.0 o.1
headline-told asked r files over did o is honest for =
    elim (comes-told r files over.shelf (work_of over did) (Ok o) honest.shelf_tells (decided-for asked r over.shelf (work_of over did) (Ok o) for is)) [
      | inl runs ↦ headline-of r files (work_of over did) o honest.depot_tells runs
      | inr stops ↦ absurd stops.0
    ]

pub keeps-headline : (asked : Option Request) (over : Devices) (did : Did) (d : Result Text Stop) → IsDecision asked over.shelf (work_of over did) d → Prints d did.status over.sink → KeepsHeadline asked over did
keeps-headline asked over did (Ok o) is (inl (e, all)) low files honest r for = (o.1, rw e (headline-told asked r files over did o is honest for), all)
keeps-headline asked over did (Ok o) is (inr (six, cut)) low files honest r for = let no : ⊥ = omega (arith, six, low) in absurd no
keeps-headline asked over did (Err s) is (e, some) low files honest r for = let late = (stops-late s).0 in let no : ⊥ = omega (arith, e, low, late) in absurd no

pub keeps-headline-cut : (asked : Option Request) (over : Devices) (did : Did) (d : Result Text Stop) → IsDecision asked over.shelf (work_of over did) d → Prints d did.status over.sink → KeepsHeadlineCut asked over did
keeps-headline-cut asked over did (Ok o) is (inl (e, all)) six files honest r for = let low = decision-small asked over.shelf (work_of over did) o is in let no : ⊥ = omega (arith, e, low, six) in absurd no
keeps-headline-cut asked over did (Ok o) is (inr (e, cut)) six files honest r for = (o.0, o.1, headline-told asked r files over did o is honest for, cut)
keeps-headline-cut asked over did (Err s) is (e, some) six files honest r for = absurd ((stops-late s).1 (sym e ∙ six))

-- ---- completeness

stop-excused : (r : Request) (table batch : Option (List ℕ)) (shelf : OverShelf) (w : Work) (s : Stop) → first_stop r table batch ≡ None → (Rose shelf.before shelf.now → ⊥)
    → (Rose w.old.faults w.new.faults → ⊥) → ComesTo r table batch shelf w (Err s) → s ≡ stop.Memory
stop-excused r table batch shelf w s none no_read no_put (inl runs) = elim runs.comes [
  | inl memory ↦ memory.stop_is
  | inr left ↦ absurd (no_put left.left.rose)
]
stop-excused r table batch shelf w s none no_read no_put (inr (inl first, untouched)) = cc (none, first)
stop-excused r table batch shelf w s none no_read no_put (inr (inr (inl memory), untouched)) = memory
stop-excused r table batch shelf w s none no_read no_put (inr (inr (inr (fault, rose)), untouched)) = absurd (no_read rose)

-- a headline over a depot that counted no fault loses no query unless out of memory
pub only-for-memory : (r : Request) (files : List ℕ → Option (List ℕ)) (w : Work) (ends : ℕ) (text : List ℕ) (h : Headline r files w ends text) → Tells w.old.held → (Rose w.old.faults w.new.faults → ⊥)
    → AllByRecursion OnlyForMemory h.losses
only-for-memory r files w ends text h tells none = only-memory w.old.held (past w.story) r.parts w.old.faults w.new.faults tells none h.worked.story.licensed 1 h.given.outcomes.items h.losses h.lost

pub is-complete : (asked : Option Request) (over : Devices) (did : Did) (d : Result Text Stop) → IsDecision asked over.shelf (work_of over did) d → Prints d did.status over.sink → IsComplete asked over did
is-complete asked over did (Ok o) is (inl (e, all)) files honest r for none faultless =
    let h = headline-told asked r files over did o is honest for in
    inr (rw e (record { text = o.1; headline = h; lost = All-from_recursion OnlyForMemory h.losses (only-for-memory r files (work_of over did) o.0 o.1 h honest.depot_tells faultless.depot_is); written = all }))
is-complete asked over did (Ok o) is (inr (six, (k, less, part, rose))) files honest r for none faultless = absurd (faultless.sink_is rose)
is-complete asked over did (Err s) is (e, some) files honest r for none faultless =
    let comes = comes-told r files over.shelf (work_of over did) (Err s) honest.shelf_tells (decided-for asked r over.shelf (work_of over did) (Err s) for is) in
    let memory = stop-excused r (text_in (table_source r.table) files) (text_in (batch_source r.batch) files) over.shelf (work_of over did) s none faultless.shelf_is faultless.depot_is comes in
    inl (e ∙ ap status_of memory)

-- ---- parts

pub is-for-all-parts : (asked : Option Request) (over : Devices) (did : Did) (d : Result Text Stop) → IsDecision asked over.shelf (work_of over did) d → Prints d did.status over.sink → IsForAllParts asked over did
is-for-all-parts asked over did d is prints low files honest r for none =
    let (text, h, written) = keeps-headline asked over did d is prints low files honest r for in
    record { text = text; headline = h; written = written; alike = for-any-parts r files (work_of over did) did.status text h (only-for-memory r files (work_of over did) did.status text h honest.depot_tells none) }

-- ---- the stops

usage-of : (asked : Option Request) (shelf : OverShelf) (w : Work) (d : Result Text Stop) (status : ℕ) (sink : OverSink) → IsDecision asked shelf w d
    → Prints d status sink → status ≡ 2 → asked ≡ None
usage-of None shelf w d status sink is prints two = refl
usage-of (Some r) shelf w d status sink is prints two =
    let (s, e, by) = stopped (Some r) shelf w d status sink is prints (omega (arith, two)) (λ h. cc (h, two)) in
    absurd (is.no_usage (e ∙ ap (λ (x : Stop). Err x) (is-usage s (sym by ∙ two))))

refused-words-of : (asked : Option Request) (shelf : OverShelf) (w : Work) (d : Result Text Stop) (status : ℕ) (sink : OverSink) → IsDecision asked shelf w d
    → Prints d status sink → asked ≡ None → (status ≡ 2) ⊎ (status ≡ 7)
refused-words-of None shelf w d status sink (inl usage, untouched) prints none = inl (subst (λ (x : Result Text Stop). Prints x status sink) usage prints).0
refused-words-of None shelf w d status sink (inr memory, untouched) prints none = inr (subst (λ (x : Result Text Stop). Prints x status sink) memory prints).0
refused-words-of (Some r) shelf w d status sink is prints none = cc none

pub is-usage-exactly : (asked : Option Request) (shelf : OverShelf) (w : Work) (d : Result Text Stop) (status : ℕ) (sink : OverSink) → IsDecision asked shelf w d → Prints d status sink → IsUsageExactly asked status
is-usage-exactly asked shelf w d status sink is prints = record { only = usage-of asked shelf w d status sink is prints; always = refused-words-of asked shelf w d status sink is prints }

pub refused-others : (due : ℕ) → IsRefused due → (due ≢ 7) × (due ≢ 5) × (due ≢ 4)
refused-others due (inl h) = (λ e. cc (h, e), λ e. cc (h, e), λ e. cc (h, e))
refused-others due (inr (inl h)) = (λ e. cc (h, e), λ e. cc (h, e), λ e. cc (h, e))
refused-others due (inr (inr h)) = (λ e. cc (h, e), λ e. cc (h, e), λ e. cc (h, e))

-- a status of a refusal comes of the first stop
first-only : (r : Request) (table batch : Option (List ℕ)) (shelf : OverShelf) (w : Work) (s : Stop) (due : ℕ) → IsRefused due → due ≡ status_of s
    → ComesTo r table batch shelf w (Err s) → HasStatus due (first_stop r table batch)
first-only r table batch shelf w s due refused by (inl runs) = elim runs.comes [
  | inl memory ↦ absurd ((refused-others due refused).0 (by ∙ ap status_of memory.stop_is))
  | inr left ↦ absurd ((refused-others due refused).1 (by ∙ ap status_of left.stop_is))
]
first-only r table batch shelf w s due refused by (inr (inl first, untouched)) = (s, first, sym by)
first-only r table batch shelf w s due refused by (inr (inr (inl memory), untouched)) = absurd ((refused-others due refused).0 (by ∙ ap status_of memory))
first-only r table batch shelf w s due refused by (inr (inr (inr (fault, rose)), untouched)) = absurd ((refused-others due refused).2 (by ∙ fault-status r table s fault))

-- where there is a first stop the run ends with its status, out of memory, or since the shelf failed
first-always : (r : Request) (table batch : Option (List ℕ)) (shelf : OverShelf) (w : Work) (d : Result Text Stop) (status : ℕ) (sink : OverSink) (due : ℕ)
    → ComesTo r table batch shelf w d → Prints d status sink → HasStatus due (first_stop r table batch) → EndsFirst r table shelf d due status
first-always r table batch shelf w d status sink due (inl runs) prints (t, first, by) = cc (runs.accepted, first)
first-always r table batch shelf w (Ok o) status sink due (inr (stops, untouched)) prints h = absurd stops
first-always r table batch shelf w (Err s) status sink due (inr (stops, untouched)) prints h = stops-first r table batch shelf s status sink due stops prints h

comes-behind : (r : Request) (table batch : Option (List ℕ)) (shelf : OverShelf) (w : Work) → ComesTo r table batch shelf w (Err stop.BatchFault) → AcceptsTable r table
comes-behind r table batch shelf w (inl runs) = elim runs.comes [
  | inl memory ↦ cc memory.stop_is
  | inr left ↦ cc left.stop_is
]
comes-behind r table batch shelf w (inr (stops, untouched)) = stops-behind r table batch shelf stops

decided-faulty : (r : Request) (shelf : OverShelf) (w : Work) (d : Result Text Stop) → IsDecided r shelf w d → Faulty r shelf d
decided-faulty r shelf w d is = record {
  table = is.table_fault;
  batch = is.batch_fault;
  behind = λ e. record {
    table = is.table;
    table_is = is.table_is;
    accepted = comes-behind r is.table is.batch shelf w (subst (λ (x : Result Text Stop). ComesTo r is.table is.batch shelf w x) e is.comes);
  };
}

pub late-status : (due : ℕ) → IsRefused due → (2 ≤ due) × (due ≢ 6)
late-status due (inl h) = (omega (arith, h), λ e. cc (h, e))
late-status due (inr (inl h)) = (omega (arith, h), λ e. cc (h, e))
late-status due (inr (inr h)) = (omega (arith, h), λ e. cc (h, e))

-- 3, 8 and 9, by what excuses them
exactly-by : (due : ℕ) → IsRefused due → (Fails : Type 0) (asked : Option Request) (shelf : OverShelf) (w : Work) (d : Result Text Stop) (status : ℕ) (sink : OverSink) → IsDecision asked shelf w d → Prints d status sink
    → (files : List ℕ → Option (List ℕ)) → shelf.held ≡ Some files → (r : Request) → asked ≡ Some r
    → (HasStatus due (stop_over r files) → EndsFirst r (text_in (table_source r.table) files) shelf d due status → (status ≡ due) ⊎ IsExcused Fails status shelf) → ComesExactly due (stop_over r files) Fails status shelf
exactly-by due refused Fails asked shelf w d status sink is prints files held r for excuse =
    let comes = comes-told r files shelf w d held (decided-for asked r shelf w d for is) in
    let table = text_in (table_source r.table) files in
    let batch = text_in (batch_source r.batch) files in
    let late = late-status due refused in
    record {
      only = λ e. let (s, d_is, by) = stopped asked shelf w d status sink is prints (omega (arith, e, late.0)) (λ h. late.1 (sym e ∙ h)) in
          first-only r table batch shelf w s due refused (sym e ∙ by) (subst (λ (x : Result Text Stop). ComesTo r table batch shelf w x) d_is comes);
      always = λ h. excuse h (first-always r table batch shelf w d status sink due comes prints h);
    }

pub early-refused : (due : ℕ) → IsEarly due → IsRefused due
early-refused due (inl three) = inl three
early-refused due (inr eight) = inr (inl eight)

pub stops-early : (due : ℕ) → IsEarly due → (asked : Option Request) (shelf : OverShelf) (w : Work) (d : Result Text Stop) (status : ℕ) (sink : OverSink) → IsDecision asked shelf w d → Prints d status sink
    → StopsExactly due FailsAtTable asked shelf sink status
stops-early due early asked shelf w d status sink is prints files held r for =
    exactly-by due (early-refused due early) (FailsAtTable r shelf sink status) asked shelf w d status sink is prints files held r for
    (λ h ends. excused-early r (text_in (table_source r.table) files) (text_in (batch_source r.batch) files) shelf d status sink due (decided-faulty r shelf w d (decided-for asked r shelf w d for is)) prints early h ends)

pub stops-at-batch : (asked : Option Request) (shelf : OverShelf) (w : Work) (d : Result Text Stop) (status : ℕ) (sink : OverSink) → IsDecision asked shelf w d → Prints d status sink → StopsExactly 9 FailsAtEither asked shelf sink status
stops-at-batch asked shelf w d status sink is prints files held r for =
    exactly-by 9 (inr (inr refl)) (FailsAtEither r shelf sink status) asked shelf w d status sink is prints files held r for
    (λ h ends. excused-late r (text_in (table_source r.table) files) shelf d status sink 9 (decided-faulty r shelf w d (decided-for asked r shelf w d for is)) prints ends)

-- 4 where a file is missing
pub misses-file : (asked : Option Request) (shelf : OverShelf) (w : Work) (d : Result Text Stop) (status : ℕ) (sink : OverSink) → IsDecision asked shelf w d → Prints d status sink → MissesFile asked shelf status
misses-file asked shelf w d status sink is prints files held r for h =
    let table = text_in (table_source r.table) files in
    misses r table shelf d status sink prints (first-always r table (text_in (batch_source r.batch) files) shelf w d status sink 4 (comes-told r files shelf w d held (decided-for asked r shelf w d for is)) prints h)

pub fails-to-read : (asked : Option Request) (shelf : OverShelf) (w : Work) (d : Result Text Stop) (status : ℕ) (sink : OverSink) → IsDecision asked shelf w d → Prints d status sink → FailsToRead asked shelf sink status
fails-to-read asked shelf w d status sink is prints four r for =
    let (s, e, by) = stopped asked shelf w d status sink is prints (omega (arith, four)) (λ h. cc (h, four)) in
    let faulty = decided-faulty r shelf w d (decided-for asked r shelf w d for is) in
    elim (is-fault s (sym by ∙ four)) [
      | inl table ↦ inl (fails-at-table r shelf d status sink faulty prints (e ∙ ap (λ (x : Stop). Err x) table))
      | inr batch ↦ inr (fails-at-batch r shelf d status sink faulty prints (e ∙ ap (λ (x : Stop). Err x) batch))
    ]

-- what is known of the depot where a run stops for a piece
piece-fault : (r : Request) (table batch : Option (List ℕ)) (shelf : OverShelf) (w : Work) (s : Stop) → status_of s ≡ 5 → ComesTo r table batch shelf w (Err s)
    → Rose w.old.faults w.new.faults
piece-fault r table batch shelf w s five (inl runs) = elim runs.comes [
  | inl memory ↦ cc (five, ap status_of memory.stop_is)
  | inr left ↦ left.left.rose
]
piece-fault r table batch shelf w s five (inr (inl first, untouched)) = absurd (first-before r table batch s first five)
piece-fault r table batch shelf w s five (inr (inr (inl memory), untouched)) = cc (five, ap status_of memory)
piece-fault r table batch shelf w s five (inr (inr (inr (fault, rose)), untouched)) = cc (five, fault-status r table s fault)

usage-stop : (w : Work) (d : Result Text Stop) (s : Stop) → (d ≡ Err stop.Usage) ⊎ (d ≡ Err stop.Memory) → d ≡ Err s → (s ≡ stop.Usage) ⊎ (s ≡ stop.Memory)
usage-stop w d s (inl h) e = inl (cc (h, e))
usage-stop w d s (inr h) e = inr (cc (h, e))

pub put-fault-of : (asked : Option Request) (shelf : OverShelf) (w : Work) (d : Result Text Stop) (status : ℕ) (sink : OverSink) → IsDecision asked shelf w d
    → Prints d status sink → status ≡ 5 → Rose w.old.faults w.new.faults
put-fault-of None shelf w d status sink is prints five =
    let (s, e, by) = stopped None shelf w d status sink is prints (omega (arith, five)) (λ h. cc (h, five)) in
    elim (usage-stop w d s is.0 e) [
      | inl usage ↦ cc (by, five, ap status_of usage)
      | inr memory ↦ cc (by, five, ap status_of memory)
    ]
put-fault-of (Some r) shelf w d status sink is prints five =
    let (s, e, by) = stopped (Some r) shelf w d status sink is prints (omega (arith, five)) (λ h. cc (h, five)) in
    piece-fault r is.table is.batch shelf w s (sym by ∙ five) (subst (λ (x : Result Text Stop). ComesTo r is.table is.batch shelf w x) e is.comes)

pub write-fault-of : (asked : Option Request) (shelf : OverShelf) (w : Work) (d : Result Text Stop) (status : ℕ) (sink : OverSink) → IsDecision asked shelf w d
    → Prints d status sink → status ≡ 6 → Rose sink.before sink.now
write-fault-of asked shelf w d status sink is prints six = write-fault-by d status sink (λ o e. decision-small asked shelf w o (subst (λ (x : Result Text Stop). IsDecision asked shelf w x) e is)) prints six

pub no-memory-of : (asked : Option Request) (shelf : OverShelf) (w : Work) (d : Result Text Stop) (status : ℕ) (sink : OverSink) → IsDecision asked shelf w d
    → Prints d status sink → status ≡ 7 → sink.new ≡ sink.old
no-memory-of asked shelf w d status sink is prints seven =
    let (s, e, by) = stopped asked shelf w d status sink is prints (omega (arith, seven)) (λ h. cc (h, seven)) in
    let memory : d ≡ Err stop.Memory = e ∙ ap (λ (x : Stop). Err x) (is-memory s (sym by ∙ seven)) in
    memory-writes status sink (subst (λ (x : Result Text Stop). Prints x status sink) memory prints)

-- ---- what the workers did

-- a run of a status that no stop has has run
worked : (r : Request) (table batch : Option (List ℕ)) (shelf : OverShelf) (w : Work) (o : Text) → IsTextOf shelf.held (table_source r.table) table
    → IsTextOf shelf.held (batch_source r.batch) batch → ComesTo r table batch shelf w (Ok o) → HasWorked r shelf w
worked r table batch shelf w o table_is batch_is (inl runs) =
    record { table = table; batch = batch; table_is = table_is; batch_is = batch_is; given = runs.given; is_given = runs.is_given; worked = runs.comes.are.worked }
worked r table batch shelf w o table_is batch_is (inr (never, untouched)) = absurd never

pub leaves-its-work : (asked : Option Request) (over : Devices) (did : Did) (d : Result Text Stop) → IsDecision asked over.shelf (work_of over did) d → Prints d did.status over.sink → LeavesItsWork asked over did
leaves-its-work asked over did (Ok o) is prints h r for = let decided = decided-for asked r over.shelf (work_of over did) (Ok o) for is in
    worked r decided.table decided.batch over.shelf (work_of over did) o decided.table_is decided.batch_is decided.comes
leaves-its-work asked over did (Err s) is prints (inl low) r for = let late = (stops-late s).0 in let no : ⊥ = omega (arith, prints.0, low, late) in absurd no
leaves-its-work asked over did (Err s) is prints (inr six) r for = absurd ((stops-late s).1 (sym prints.0 ∙ six))

abbrev NoStory : Work → Type 0
NoStory w = (w.story ≡ []) × (w.taken ≡ [])

no-story : (r : Request) (table batch : Option (List ℕ)) (shelf : OverShelf) (w : Work) (s : Stop) → status_of s ≢ 7 → ComesTo r table batch shelf w (Err s) → NoStory w
no-story r table batch shelf w s seven (inl runs) = elim runs.comes [
  | inl memory ↦ absurd (seven (ap status_of memory.stop_is))
  | inr left ↦ (left.idle.story, left.idle.taken)
]
no-story r table batch shelf w s seven (inr (stops, untouched)) = (untouched.story, untouched.taken)

pub is-idle-elsewhere : (asked : Option Request) (over : Devices) (did : Did) (d : Result Text Stop) → IsDecision asked over.shelf (work_of over did) d → Prints d did.status over.sink → IsIdleElsewhere did
is-idle-elsewhere None over did d is prints late six seven = (is.1.story, is.1.taken)
is-idle-elsewhere (Some r) over did d is prints late six seven =
    let (s, e, by) = stopped (Some r) over.shelf (work_of over did) d did.status over.sink is prints late six in
    no-story r is.table is.batch over.shelf (work_of over did) s (λ h. seven (by ∙ h)) (subst (λ (x : Result Text Stop). ComesTo r is.table is.batch over.shelf (work_of over did) x) e is.comes)

-- what holds of the depot's counts whatever the status
pub record IsCounted (w : Work) : Type 0 where
  pub licensed : Licensed (is_some w.old.held) w.old.faults w.new.faults (past w.story)
  pub reads : w.new.gets ≡ w.old.gets + reads (past w.story)

idle-counted : (w : Work) → IsIdle w → IsCounted w
idle-counted w idle = record { licensed = rw idle.story idle.later; reads = rw idle.story (omega (arith, idle.gets)) }

untouched-counted : (w : Work) → IsUntouched w → IsCounted w
untouched-counted w is = idle-counted w (record { story = is.story; taken = is.taken; gets = ap (λ (x : DepotAt). x.gets) is.depot; later = let e = ap (λ (x : DepotAt). x.faults) is.depot in omega (arith, e) })

comes-counted : (r : Request) (table batch : Option (List ℕ)) (shelf : OverShelf) (w : Work) (d : Result Text Stop) → ComesTo r table batch shelf w d → IsCounted w
comes-counted r table batch shelf w (Ok o) (inl runs) = let story = runs.comes.are.worked.story in record { licensed = story.licensed; reads = story.gets }
comes-counted r table batch shelf w (Err s) (inl runs) = elim runs.comes [
  | inl memory ↦ elim memory.when [
    | inl idle ↦ idle-counted w idle
    | inr ran ↦ record { licensed = ran.story.licensed; reads = ran.story.gets }
  ]
  | inr left ↦ idle-counted w left.idle
]
comes-counted r table batch shelf w d (inr (stops, untouched)) = untouched-counted w untouched

pub is-counted : (asked : Option Request) (shelf : OverShelf) (w : Work) (d : Result Text Stop) → IsDecision asked shelf w d → IsCounted w
is-counted None shelf w d is = untouched-counted w is.1
is-counted (Some r) shelf w d is = comes-counted r is.table is.batch shelf w d is.comes

-- EVERY PROMISE, of what was decided and written
pub keeps-promises : (asked : Option Request) (over : Devices) (did : Did) → DecidesAndPrints asked over did → KeepsPromises asked over did
keeps-promises asked over did (d, is, prints) =
    let w = work_of over did in
    let counted = is-counted asked over.shelf w d is in
    record {
      headline = keeps-headline asked over did d is prints;
      complete = is-complete asked over did d is prints;
      parts = is-for-all-parts asked over did d is prints;
      usage = is-usage-exactly asked over.shelf w d did.status over.sink is prints;
      no_table = stops-early 3 (inl refl) asked over.shelf w d did.status over.sink is prints;
      read_fault = fails-to-read asked over.shelf w d did.status over.sink is prints;
      no_file = misses-file asked over.shelf w d did.status over.sink is prints;
      put_fault = put-fault-of asked over.shelf w d did.status over.sink is prints;
      write_fault = write-fault-of asked over.shelf w d did.status over.sink is prints;
      cut = keeps-headline-cut asked over did d is prints;
      no_memory = no-memory-of asked over.shelf w d did.status over.sink is prints;
      frames = stops-early 8 (inr refl) asked over.shelf w d did.status over.sink is prints;
      no_batch = stops-at-batch asked over.shelf w d did.status over.sink is prints;
      worked = leaves-its-work asked over did d is prints;
      idle = is-idle-elsewhere asked over did d is prints;
      licensed = counted.licensed;
      reads = counted.reads;
      decides = (d, is, prints);
    }
