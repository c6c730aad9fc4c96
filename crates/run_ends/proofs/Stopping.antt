-- The stops that come before a batch runs.
use Rattle.std.proofs.Common.{◌≡◌, ◌≢◌, ◌≤◌, ◌*◌, ℕ, List, length, Option, Some, None, nat_lt, refl, subst, cond, arith, Bool, true, false, inl, inr, ◌⊎◌}
use Rattle.csv_load.specs.Meaning.{Values, table_of}
use Rattle.csv_load.specs.Judged.{or_else, refusal_of}
use Rattle.csv_load.specs.Rows.{table_records}
use Rattle.csv_load.specs.declared.refusal.LoadRefusal.{LoadRefusal}
use Rattle.csv_load.specs.declared.refusal.LoadRefusal.TheVariants as refusal
use Rattle.command_words.specs.Options.{Request}
use Rattle.run_stops.specs.Stops.{status_of}
use Rattle.run_stops.specs.declared.stop.Stop.{Stop}
use Rattle.run_stops.specs.declared.stop.Stop.TheVariants as stop
use Rattle.table_core.specs.Chunk.{chunk_count}
use Rattle.run_inputs.specs.Ending.{AcceptsTable}
use Rattle.run_inputs.specs.Order.{batch_stop, chunks_stop, count_stop, first_stop, frames_given, frames_needed, frames_stop, load_stop, long_batch, long_table, past, stop_in, table_size_stop, table_stop, words_given}
use Rattle.run_inputs.specs.Statements.{spans_in}

pub or-none : {T : Type 0} (a b : Option T) → or_else a b ≡ None → (a ≡ None) × (b ≡ None)
or-none None b h = (refl, h)
or-none (Some x) b h = cc h

-- what holds of both holds of the first that is there
or-some : (P : Stop → Type 0) (a b : Option Stop) (s : Stop) → ((t : Stop) → a ≡ Some t → P t) → ((t : Stop) → b ≡ Some t → P t) → or_else a b ≡ Some s → P s
or-some P None b s first second h = second s h
or-some P (Some x) b s first second h = first s h

within : (b : Bool) (s : Stop) → cond b (Some s) None ≡ None → b ≡ false
within true s h = cc h
within false s h = refl

-- a limit that isn't passed
pub past-none : (limit n : ℕ) (s : Stop) → past limit n s ≡ None → n ≤ limit
past-none limit n s h = let b : nat_lt limit n ≡ false = within (nat_lt limit n) s h in grind (arith, b)

passed : (b : Bool) (s t : Stop) → cond b (Some s) None ≡ Some t → s ≡ t
passed true s t h = cc h
passed false s t h = cc h

past-some : (limit n : ℕ) (s t : Stop) → past limit n s ≡ Some t → s ≡ t
past-some limit n s t h = passed (nat_lt limit n) s t h

-- ---- what a run that isn't stopped is given

pub few-chunks : (r : Request) (text : List ℕ) → table_stop r text ≡ None → chunk_count (length (table_of (table_records text)).rows) r.per ≤ 1024
few-chunks r text h =
    let t = table_of (table_records text) in
    let short = or-none (long_table text) (or_else (load_stop (refusal_of (table_records text))) (table_size_stop r t)) h in
    let loads = or-none (load_stop (refusal_of (table_records text))) (table_size_stop r t) short.1 in
    let size = or-none (chunks_stop r.per (length t.rows)) (frames_stop r.workers r.frames r.layout (length t.columns) r.per (length t.rows)) loads.1 in
    past-none 1024 (chunk_count (length t.rows) r.per) (stop.Chunks (chunk_count (length t.rows) r.per)) size.0

pub few-statements : (r : Request) (text : List ℕ) → batch_stop r text ≡ None → length (spans_in text) ≤ 256
few-statements r text h =
    let n = length (spans_in text) in
    let short = or-none (long_batch text) (count_stop r.parts n) h in
    let count = or-none (past 256 n (stop.Statements n)) (past 256 (r.parts * n) (stop.Scans (r.parts * n))) short.1 in
    past-none 256 n (stop.Statements n) count.0

pub few-scans : (r : Request) (text : List ℕ) → batch_stop r text ≡ None → r.parts * length (spans_in text) ≤ 256
few-scans r text h =
    let n = length (spans_in text) in
    let short = or-none (long_batch text) (count_stop r.parts n) h in
    let count = or-none (past 256 n (stop.Statements n)) (past 256 (r.parts * n) (stop.Scans (r.parts * n))) short.1 in
    past-none 256 (r.parts * n) (stop.Scans (r.parts * n)) count.1

-- there are frames enough, within the pool's limit
pub enough-frames : (r : Request) (text : List ℕ) → table_stop r text ≡ None → let t = table_of (table_records text) in
    (frames_needed r.workers r.layout (length t.columns) ≤ frames_given r.workers r.frames r.layout (length t.columns))
    × (words_given r.workers r.frames r.layout (length t.columns) r.per (length t.rows) ≤ 33554432)
enough-frames r text h =
    let t = table_of (table_records text) in
    let layout = r.layout in
    let short = or-none (long_table text) (or_else (load_stop (refusal_of (table_records text))) (table_size_stop r t)) h in
    let loads = or-none (load_stop (refusal_of (table_records text))) (table_size_stop r t) short.1 in
    let size = or-none (chunks_stop r.per (length t.rows)) (frames_stop r.workers r.frames layout (length t.columns) r.per (length t.rows)) loads.1 in
    let needed = frames_needed r.workers layout (length t.columns) in
    let given = frames_given r.workers r.frames layout (length t.columns) in
    let words = words_given r.workers r.frames layout (length t.columns) r.per (length t.rows) in
    let frames = or-none (past given needed (stop.FramesNeeded needed)) (past 33554432 words (stop.FrameWords words)) size.1 in
    (past-none given needed (stop.FramesNeeded needed) frames.0, past-none 33554432 words (stop.FrameWords words) frames.1)

-- ---- with what the table can stop a run, and with what the batch can

-- a stop of the table is none of a piece, and no fault of the batch
abbrev pub OfTable : Stop → Type 0
OfTable s = (status_of s ≢ 5) × (s ≢ stop.BatchFault)

-- a stop of the batch has one of two statuses
abbrev pub OfBatch : Stop → Type 0
OfBatch s = (status_of s ≡ 4) ⊎ (status_of s ≡ 9)

past-is : (P : Stop → Type 0) (limit n : ℕ) (s t : Stop) → P s → past limit n s ≡ Some t → P t
past-is P limit n s t h e = subst P (past-some limit n s t e) h

some-same : (x s : Stop) → ◌≡◌ {A = Option Stop} (Some x) (Some s) → x ≡ s
some-same x s h = cc h

load-is : (why : Option LoadRefusal) (s : Stop) → load_stop why ≡ Some s → OfTable s
load-is None s h = cc h
load-is (Some refusal.NoHeader) s h = subst OfTable (some-same stop.NoHeader s h) (λ e. cc e, λ e. cc e)
load-is (Some (refusal.TooManyColumns columns)) s h = subst OfTable (some-same (stop.Columns columns) s h) (λ e. cc e, λ e. cc e)
load-is (Some (refusal.LongName column)) s h = subst OfTable (some-same (stop.LongName column) s h) (λ e. cc e, λ e. cc e)
load-is (Some (refusal.TwiceNamed first second)) s h = subst OfTable (some-same (stop.TwiceNamed first second) s h) (λ e. cc e, λ e. cc e)
load-is (Some (refusal.Ragged row fields)) s h = subst OfTable (some-same (stop.Ragged row fields) s h) (λ e. cc e, λ e. cc e)
load-is (Some refusal.TooManyRows) s h = subst OfTable (some-same stop.TooManyRows s h) (λ e. cc e, λ e. cc e)
load-is (Some refusal.Memory) s h = subst OfTable (some-same stop.Memory s h) (λ e. cc e, λ e. cc e)

size-is : (r : Request) (t : Values) (s : Stop) → table_size_stop r t ≡ Some s → OfTable s
size-is r t s h =
    let rows = length t.rows in
    let columns = length t.columns in
    let layout = r.layout in
    let count = chunk_count rows r.per in
    let needed = frames_needed r.workers layout columns in
    let words = words_given r.workers r.frames layout columns r.per rows in
    or-some OfTable (chunks_stop r.per rows) (frames_stop r.workers r.frames layout columns r.per rows) s (λ x. past-is OfTable 1024 count (stop.Chunks count) x (λ e. cc e, λ e. cc e))
    (λ x. or-some OfTable (past (frames_given r.workers r.frames layout columns) needed (stop.FramesNeeded needed)) (past 33554432 words (stop.FrameWords words)) x
    (λ y. past-is OfTable (frames_given r.workers r.frames layout columns) needed (stop.FramesNeeded needed) y (λ e. cc e, λ e. cc e))
    (λ y. past-is OfTable 33554432 words (stop.FrameWords words) y (λ e. cc e, λ e. cc e))) h

table-is : (r : Request) (text : List ℕ) (s : Stop) → table_stop r text ≡ Some s → OfTable s
table-is r text s h =
    let t = table_of (table_records text) in
    or-some OfTable (long_table text) (or_else (load_stop (refusal_of (table_records text))) (table_size_stop r t)) s
    (λ x. past-is OfTable 268435456 (length text) stop.TableTooLong x (λ e. cc e, λ e. cc e))
    (λ x. or-some OfTable (load_stop (refusal_of (table_records text))) (table_size_stop r t) x (load-is (refusal_of (table_records text))) (size-is r t)) h

batch-is : (r : Request) (text : List ℕ) (s : Stop) → batch_stop r text ≡ Some s → OfBatch s
batch-is r text s h =
    let n = length (spans_in text) in
    or-some OfBatch (long_batch text) (count_stop r.parts n) s (λ x. past-is OfBatch 1048576 (length text) stop.BatchTooLong x (inr refl))
    (λ x. or-some OfBatch (past 256 n (stop.Statements n)) (past 256 (r.parts * n) (stop.Scans (r.parts * n))) x
    (λ y. past-is OfBatch 256 n (stop.Statements n) y (inr refl)) (λ y. past-is OfBatch 256 (r.parts * n) (stop.Scans (r.parts * n)) y (inr refl))) h

text-is : (P : Stop → Type 0) (fault : Stop) (why : List ℕ → Option Stop) (text : Option (List ℕ)) (s : Stop) → P fault → ((b : List ℕ) (t : Stop) → why b ≡ Some t → P t) → stop_in fault why text ≡ Some s → P s
text-is P fault why None s is each h = subst P (some-same fault s h) is
text-is P fault why (Some b) s is each h = each b s h

of-table : (r : Request) (table : Option (List ℕ)) (s : Stop) → stop_in stop.TableFault (table_stop r) table ≡ Some s → OfTable s
of-table r table s h = text-is OfTable stop.TableFault (table_stop r) table s (λ e. cc e, λ e. cc e) (table-is r) h

of-batch : (r : Request) (batch : Option (List ℕ)) (s : Stop) → stop_in stop.BatchFault (batch_stop r) batch ≡ Some s → OfBatch s
of-batch r batch s h = text-is OfBatch stop.BatchFault (batch_stop r) batch s (inl refl) (batch-is r) h

-- behind a table that is accepted the first stop is one of the batch
pub behind-table : (r : Request) (table batch : Option (List ℕ)) (s : Stop) → AcceptsTable r table → first_stop r table batch ≡ Some s → OfBatch s
behind-table r table batch s accepted h = of-batch r batch s (rw accepted at h)

-- where the first stop is a fault of the batch, the table is accepted
pub batch-behind : (r : Request) (table batch : Option (List ℕ)) → first_stop r table batch ≡ Some stop.BatchFault → AcceptsTable r table
batch-behind r table batch h = go (stop_in stop.TableFault (table_stop r) table) refl h
  where
    go : (o : Option Stop) → stop_in stop.TableFault (table_stop r) table ≡ o → or_else o (stop_in stop.BatchFault (batch_stop r) batch) ≡ Some stop.BatchFault → AcceptsTable r table
    go None e first = e
    go (Some s) e first = absurd ((of-table r table s e).1 (some-same s stop.BatchFault first))

-- no stop before the batch runs has the status of a piece that isn't stored
pub first-before : (r : Request) (table batch : Option (List ℕ)) (s : Stop) → first_stop r table batch ≡ Some s → status_of s ≢ 5
first-before r table batch s h =
    or-some (λ t. status_of t ≢ 5) (stop_in stop.TableFault (table_stop r) table) (stop_in stop.BatchFault (batch_stop r) batch) s
    (λ t e. (of-table r table t e).0)
    (λ t e five. elim (of-batch r batch t e) [
      | inl four ↦ cc (four, five)
      | inr nine ↦ cc (nine, five)
    ]) h
