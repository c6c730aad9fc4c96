-- What a run is given can run.
use Rattle.std.proofs.Common.{◌≡◌, ◌≤◌, ◌∙◌, ◌+◌, ◌*◌, ℕ, List, [], ◌∷◌, length, map, Option, None, Some, sym, ap, arith}
use Rattle.std.specs.Prelude.{IfSome}
use Rattle.std.proofs.Math.Nat.{mul-le-mul}
use Rattle.std.specs.List.{AllByRecursion}
use Rattle.std.proofs.lemmas.List.{length-map}
use Rattle.command_words.specs.Limits.{IsFrom, IsWithinLimits}
use Rattle.command_words.specs.Options.{Request}
use Rattle.csv_load.specs.Loaded.{IsLoaded}
use Rattle.csv_load.specs.Meaning.{table_of}
use Rattle.csv_load.specs.Judged.{Fields}
use Rattle.csv_load.specs.Rows.{table_records}
use Rattle.piece_format.specs.Shape.{groups_in}
use Rattle.piece_format.specs.declared.layout.Layout.{Layout}
use Rattle.piece_format.specs.declared.layout.Layout.TheVariants as layouts
use Rattle.run_stops.specs.declared.stop.Stop.TheVariants as stop
use Rattle.sql_bind.specs.Statements.{IsPlanFor}
use Rattle.sql_bind.specs.declared.plan.Plan.{Plan}
use Rattle.table_core.specs.Table.{TableRows}
use Rattle.table_core.specs.Value.{row_values}
use Rattle.table_core.specs.declared.schema.Column.{Column}
use Rattle.run_inputs.specs.Ending.{AreInputs}
use Rattle.run_inputs.specs.Order.{batch_stop, first_stop, frames_given, stop_in, table_stop}
use Rattle.run_inputs.specs.Statements.{part, spans_in, statements_in}
use Rattle.run_inputs.specs.declared.inputs.Inputs.{Inputs}
use Rattle.batch_ends.specs.Tasks.{IsPlanOfTable}
use Rattle.run_stops.specs.Outcomes.{ComeTo, ComesTo, plans_of}
use Rattle.run_stops.specs.declared.outcome.Outcome.{Outcome}
use Rattle.run_stops.specs.declared.outcome.Outcome.TheVariants as outcome
use Rattle.run_ends.specs.Running.{CanRun}
use Rattle.run_ends.proofs.Tasked.{zip-length}
use Rattle.run_ends.proofs.Stopping.{enough-frames, few-chunks, few-scans, few-statements, or-none}

pub rows-same : (records : List Fields) (table : TableRows) (dicts : List Fields) → IsLoaded records table dicts → length table.rows ≡ length (table_of records).rows
rows-same records table dicts is = sym (length-map table.rows (row_values dicts)) ∙ ap length is.rows

-- the plans that texts come to are over the table, where each plan of a text is
pub plans-of-table : (columns : List Column) (dicts : List Fields) (texts : List (List ℕ)) (os : List Outcome)
    → ((text : List ℕ) (columns : List Column) (dicts : List Fields) (p : Plan) → IsPlanFor text columns dicts p → IsPlanOfTable columns dicts p)
    → ComeTo columns dicts texts os → AllByRecursion (IsPlanOfTable columns dicts) (plans_of os)
plans-of-table columns dicts [] [] fit h = tt
plans-of-table columns dicts [] (o ∷ os) fit h = absurd h
plans-of-table columns dicts (text ∷ texts) [] fit h = absurd h
plans-of-table columns dicts (text ∷ texts) (outcome.Planned p ∷ os) fit h = (fit text columns dicts p h.0, plans-of-table columns dicts texts os fit h.1)
plans-of-table columns dicts (text ∷ texts) (outcome.Refused why ∷ os) fit h = plans-of-table columns dicts texts os fit h.1

few-groups : (layout : Layout) (columns : ℕ) → columns ≤ 16 → groups_in layout columns ≤ 16
few-groups layouts.Row columns few = omega arith
few-groups layouts.Column columns few = few

few-frames : (workers : ℕ) (frames : Option ℕ) (layout : Layout) (columns : ℕ) → workers ≤ 32 → columns ≤ 16 → IfSome frames (IsFrom 1 33554432) → frames_given workers frames layout columns ≤ 33554432
few-frames workers None layout columns few short h =
    let m = mul-le-mul {n₁ = 3 * workers + 1} {m₁ = groups_in layout columns} {n₂ = 97} {m₂ = 16} (omega (arith, few)) (few-groups layout columns short) in omega (arith, m)
few-frames workers (Some frames) layout columns few short h = h.1

pub can-run : (r : Request) (table batch : Option (List ℕ)) (i : Inputs) → IsWithinLimits r → first_stop r table batch ≡ None → AreInputs r table batch i → CanRun i
can-run r table batch i limits none is =
    let text = is.table_is.bytes in
    let statements = is.batch_is.bytes in
    let passes = or-none (stop_in stop.TableFault (table_stop r) table) (stop_in stop.BatchFault (batch_stop r) batch) none in
    let table_passes = rw is.table_is.text_is at passes.0 in
    let batch_passes = rw is.batch_is.text_is at passes.1 in
    let loaded = is.table_is.loaded in
    let rows = rows-same (table_records text) i.loaded.table i.loaded.dicts.items loaded in
    let columns : length i.loaded.table.columns ≡ length (table_of (table_records text)).columns = ap length loaded.columns in
    let kinds : length (map (λ (c : Column). c.kind) i.loaded.table.columns) ≡ length i.loaded.table.columns = length-map i.loaded.table.columns (λ (c : Column). c.kind) in
    let frames = enough-frames r text table_passes in
    let count = zip-length (ComesTo i.loaded.table.columns i.loaded.dicts.items) (statements_in statements) i.outcomes.items is.batch_is.come in
    let parted : length i.outcomes.items ≡ length (spans_in statements) = count ∙ length-map (spans_in statements) (part statements) in
    record {
      some = rw is.per limits.per.0;
      short = rw is.per limits.per.1;
      chunks = rw (is.per, rows) (few-chunks r text table_passes);
      loaded = (table_records text, loaded);
      places = is.table_is.places;
      statements = (statements_in statements, is.batch_is.come);
      few = rw parted (few-statements r statements batch_passes);
      parts = rw is.parts limits.parts;
      scans = rw (is.parts, parted) (few-scans r statements batch_passes);
      workers = rw is.workers limits.workers;
      room = rw (is.workers, is.layout, is.table_is.frames_are, kinds, columns) frames.0;
      frames = rw is.table_is.frames_are (few-frames r.workers r.frames r.layout (length i.loaded.table.columns) limits.workers.1 loaded.few_columns limits.frames);
      words = rw (is.layout, is.per, is.table_is.frames_are, kinds, columns, rows) frames.1;
    }
