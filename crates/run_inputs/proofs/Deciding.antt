-- The first stop, by what stops each part of the work.
use Rattle.std.proofs.Common.{◌≡◌, ◌≤◌, ◌∙◌, ℕ, List, Option, Some, None, Result, Ok, Err, length, refl, sym, ap, arith, inl, inr, subst}
use Rattle.std.specs.Prelude.{◌⊎◌}
use Rattle.std.proofs.lemmas.List.{length-map}
use Rattle.coop_outside.specs.Causes.{Rose}
use Rattle.coop_outside.specs.Held.{Held}
use Rattle.command_words.specs.Options.{Request}
use Rattle.csv_load.specs.Loaded.{IsLoaded}
use Rattle.csv_load.specs.Meaning.{table_of}
use Rattle.csv_load.specs.Judged.{Fields, or_else, refusal_of}
use Rattle.csv_load.specs.Rows.{table_records}
use Rattle.run_stops.specs.declared.stop.Stop.{Stop}
use Rattle.run_stops.specs.declared.stop.Stop.TheVariants as stop
use Rattle.table_core.specs.Table.{TableRows}
use Rattle.table_core.specs.Value.{row_values}
use Rattle.run_inputs.specs.Ending.{AreInputs, Ends, EndsOver, IsRead, IsReadFault, IsReadWith, IsTextOf, IsTextRead, SourceFails}
use Rattle.run_inputs.specs.Order.{batch_stop, first_stop, load_stop, short_batch_stop, short_table_stop, size_stop, stop_in, table_size_stop, table_stop}
use Rattle.run_inputs.specs.Sources.{Source, made, stored, batch_source, table_source, text_in}
use Rattle.run_inputs.proofs.Texts.{not-past, some-text, text-told}
use Rattle.run_inputs.specs.declared.inputs.Inputs.{Inputs}

-- what refuses: a cause, out of memory, or a fault of the shelf
abbrev pub Refuses : Option Stop → Stop → ℕ → ℕ → Stop → Type 0
Refuses why fault before now s = (why ≡ Some s) ⊎ (s ≡ stop.Memory) ⊎ ((s ≡ fault) × Rose before now)

-- the text of a source is refused
abbrev pub TextRefused : Held → Source → Stop → (List ℕ → Option Stop) → ℕ → ℕ → Stop → Type 0
TextRefused held source fault why before now s = (text : Option (List ℕ)) × IsTextOf held source text × Refuses (stop_in fault why text) fault before now s

stop-more : (fault : Stop) (why more : List ℕ → Option Stop) (text : Option (List ℕ)) (s : Stop) → stop_in fault why text ≡ Some s → stop_in fault (λ t. or_else (why t) (more t)) text ≡ Some s
stop-more fault why more None s h = h
stop-more fault why more (Some t) s h = rw h refl

-- what refuses a text at once refuses it where more is asked
pub refused-at-once : (held : Held) (source : Source) (fault : Stop) (why more : List ℕ → Option Stop) (before now : ℕ) (s : Stop)
    → IsTextRead held source fault why before now (Err s) → TextRefused held source fault (λ t. or_else (why t) (more t)) before now s
refused-at-once held source fault why more before now s (text, is, inl cause) = (text, is, inl (stop-more fault why more text s cause))
refused-at-once held source fault why more before now s (text, is, inr (inl memory)) = (text, is, inr (inl memory))
refused-at-once held source fault why more before now s (text, is, inr (inr rose)) = (text, is, inr (inr rose))

-- a text that passes the first question has the answer of the second
pub asked-more : (fault : Stop) (why more : List ℕ → Option Stop) (text : Option (List ℕ)) (bytes : List ℕ) → stop_in fault why text ≡ None → text ≡ Some bytes
    → stop_in fault (λ t. or_else (why t) (more t)) text ≡ more bytes
asked-more fault why more None bytes passes is = cc is
asked-more fault why more (Some t) bytes passes is = let same : t ≡ bytes = cc is in rw (passes, same) refl

-- what refuses a text that was read
pub refused-later : (held : Held) (source : Source) (fault : Stop) (why more : List ℕ → Option Stop) (before now : ℕ) (bytes : List ℕ) (s : Stop)
    → IsTextRead held source fault why before now (Ok bytes) → ((more bytes ≡ Some s) ⊎ (s ≡ stop.Memory)) → TextRefused held source fault (λ t. or_else (why t) (more t)) before now s
refused-later held source fault why more before now bytes s (text, is, (passes, same)) (inl cause) = (text, is, inl (asked-more fault why more text bytes passes same ∙ cause))
refused-later held source fault why more before now bytes s (text, is, (passes, same)) (inr memory) = (text, is, inr (inl memory))

-- ---- the table

-- a loaded table is as large as the table of its records
pub columns-same : (records : List Fields) (table : TableRows) (dicts : List Fields) → IsLoaded records table dicts → length table.columns ≡ length (table_of records).columns
columns-same records table dicts loaded = ap length loaded.columns

pub rows-same : (records : List Fields) (table : TableRows) (dicts : List Fields) → IsLoaded records table dicts → length table.rows ≡ length (table_of records).rows
rows-same records table dicts loaded = sym (length-map table.rows (row_values dicts)) ∙ ap length loaded.rows

-- what stops a table that is loaded is its size
pub size-stops : (r : Request) (bytes : List ℕ) (table : TableRows) (dicts : List Fields) → IsLoaded (table_records bytes) table dicts
    → or_else (load_stop (refusal_of (table_records bytes))) (table_size_stop r (table_of (table_records bytes))) ≡ size_stop r (length table.columns) (length table.rows)
size-stops r bytes table dicts loaded =
    rw (loaded.accepted, columns-same (table_records bytes) table dicts loaded, rows-same (table_records bytes) table dicts loaded) refl

-- what stops the load stops the table
pub load-stops : (r : Request) (bytes : List ℕ) (s : Stop) → (load_stop (refusal_of (table_records bytes)) ≡ Some s) ⊎ (s ≡ stop.Memory)
    → (or_else (load_stop (refusal_of (table_records bytes))) (table_size_stop r (table_of (table_records bytes))) ≡ Some s) ⊎ (s ≡ stop.Memory)
load-stops r bytes s (inl cause) = inl (rw cause refl)
load-stops r bytes s (inr memory) = inr memory

-- ---- both

pub same-err : {T : Type 0} (s t : Stop) → ◌≡◌ {A = Result T Stop} (Err s) (Err t) → s ≡ t
same-err s t h = cc h

rose-since : (before mid now : ℕ) → before ≤ mid → Rose mid now → Rose before now
rose-since before mid now h rose = omega arith

pub fails-since : (held held' : Held) (source : Source) (before mid now : ℕ) → before ≤ mid → held' ≡ held → SourceFails held' source mid now → SourceFails held source before now
fails-since held held' (made text) before mid now h e fails = fails
fails-since held held' (stored name) before mid now h e (inl rose) = inl (rose-since before mid now h rose)
fails-since held held' (stored name) before mid now h e (inr lacks) = inr (rw e at lacks)

first-of-table : (r : Request) (table batch : Option (List ℕ)) (s : Stop) → stop_in stop.TableFault (table_stop r) table ≡ Some s → first_stop r table batch ≡ Some s
first-of-table r table batch s h = rw h refl

first-of-batch : (r : Request) (table batch : Option (List ℕ)) → stop_in stop.TableFault (table_stop r) table ≡ None → first_stop r table batch ≡ stop_in stop.BatchFault (batch_stop r) batch
first-of-batch r table batch h = rw h refl

-- a run whose table is refused
pub table-refused : {T : Type 0} (Is : Option (List ℕ) → Option (List ℕ) → T → Type 0) (r : Request) (held : Held) (before now : ℕ) (s : Stop)
    → TextRefused held (table_source r.table) stop.TableFault (table_stop r) before now s → IsReadWith Is r held before now (Err s)
table-refused Is r held before now s (text, is, why) =
    let (batch, batch_is) = some-text held (batch_source r.batch) in
    record { table = text; batch = batch; table_is = is; batch_is = batch_is; ends = go why batch }
  where
    go : Refuses (stop_in stop.TableFault (table_stop r) text) stop.TableFault before now s → (batch : Option (List ℕ)) → Ends (first_stop r text batch) (Is text batch) (IsReadFault r text) before now (Err s)
    go (inl cause) batch = inl (first-of-table r text batch s cause)
    go (inr (inl memory)) batch = inr (inl memory)
    go (inr (inr (fault, rose))) batch = inr (inr (inl fault, rose))

-- a run whose table passes and whose batch is refused
pub batch-refused : {T : Type 0} (Is : Option (List ℕ) → Option (List ℕ) → T → Type 0) (r : Request) (held held' : Held) (before mid now : ℕ) (s : Stop) (table : Option (List ℕ)) → IsTextOf held (table_source r.table) table
    → stop_in stop.TableFault (table_stop r) table ≡ None → held' ≡ held → before ≤ mid
    → TextRefused held' (batch_source r.batch) stop.BatchFault (batch_stop r) mid now s → IsReadWith Is r held before now (Err s)
batch-refused Is r held held' before mid now s table table_is passes same le (batch, is, why) =
    record { table = table; batch = batch; table_is = table_is; batch_is = subst (λ (h : Held). IsTextOf h (batch_source r.batch) batch) same is; ends = go why }
  where
    go : Refuses (stop_in stop.BatchFault (batch_stop r) batch) stop.BatchFault mid now s → Ends (first_stop r table batch) (Is table batch) (IsReadFault r table) before now (Err s)
    go (inl cause) = inl (first-of-batch r table batch passes ∙ cause)
    go (inr (inl memory)) = inr (inl memory)
    go (inr (inr (fault, rose))) = inr (inr (inr (fault, passes), rose-since before mid now le rose))

-- a run whose table and batch pass
pub both-pass : {T : Type 0} (Is : Option (List ℕ) → Option (List ℕ) → T → Type 0) (r : Request) (held held' : Held) (before now : ℕ) (table batch : Option (List ℕ)) (i : T) → IsTextOf held (table_source r.table) table
    → stop_in stop.TableFault (table_stop r) table ≡ None → held' ≡ held → IsTextOf held' (batch_source r.batch) batch → stop_in stop.BatchFault (batch_stop r) batch ≡ None
    → Is table batch i → IsReadWith Is r held before now (Ok i)
both-pass Is r held held' before now table batch i table_is passes same batch_is passes' inputs = record {
  table = table;
  batch = batch;
  table_is = table_is;
  batch_is = subst (λ (h : Held). IsTextOf h (batch_source r.batch) batch) same batch_is;
  ends = (first-of-batch r table batch passes ∙ passes', inputs);
}

-- what these texts of the table and of the batch decide
abbrev pub EndsWith : Request → ℕ → ℕ → Result Inputs Stop → Option (List ℕ) → Option (List ℕ) → Type 0
EndsWith r before now result table batch = Ends (first_stop r table batch) (AreInputs r table batch) (IsReadFault r table) before now result

-- where the shelf tells what it holds, its texts decide
pub told-ends : (r : Request) (held : Held) (before now : ℕ) (result : Result Inputs Stop) (files : List ℕ → Option (List ℕ)) → held ≡ Some files → IsRead r held before now result → EndsOver r files before now result
told-ends r held before now result files told read =
    let table = text-told (table_source r.table) files read.table (subst (λ (h : Held). IsTextOf h (table_source r.table) read.table) told read.table_is) in
    let batch = text-told (batch_source r.batch) files read.batch (subst (λ (h : Held). IsTextOf h (batch_source r.batch) read.batch) told read.batch_is) in
    subst (λ (b : Option (List ℕ)). EndsWith r before now result (text_in (table_source r.table) files) b) batch
    (subst (λ (t : Option (List ℕ)). EndsWith r before now result t read.batch) table read.ends)

-- texts that are short enough, and that nothing else stops, give a run its inputs
pub none-stops : (r : Request) (table batch : List ℕ) → length table ≤ 268435456 → length batch ≤ 1048576 → short_table_stop r table ≡ None → short_batch_stop r batch ≡ None
    → first_stop r (Some table) (Some batch) ≡ None
none-stops r table batch short few table_passes batch_passes =
    rw (not-past 268435456 (length table) stop.TableTooLong short, not-past 1048576 (length batch) stop.BatchTooLong few, table_passes) batch_passes
