-- Why a run stops before its batch runs: the first refusal in the order of the work.
use Rattle.std.specs.Prelude.{◌+◌, ◌*◌, ℕ, nat_lt, min, List, length, Option, Some, None, if◌then◌else◌}
use Rattle.command_words.specs.Options.{Request}
use Rattle.csv_load.specs.Meaning.{Values, table_of}
use Rattle.csv_load.specs.Judged.{or_else, refusal_of}
use Rattle.csv_load.specs.Rows.{table_records}
use Rattle.csv_load.specs.declared.limits.TheConstants.{MOST_TEXT_BYTES}
use Rattle.csv_load.specs.declared.refusal.LoadRefusal.{LoadRefusal}
use Rattle.csv_load.specs.declared.refusal.LoadRefusal.TheVariants as refusal
use Rattle.piece_format.specs.Shape.{groups_in, word_count}
use Rattle.piece_format.specs.declared.layout.Layout.{Layout}
use Rattle.run_stops.specs.declared.stop.Stop.{Stop}
use Rattle.run_stops.specs.declared.stop.Stop.TheVariants as stop
use Rattle.table_core.specs.Chunk.{chunk_count}
use Rattle.table_sets.specs.declared.limits.TheConstants.{MOST_CHUNKS}
use Rattle.run_inputs.specs.Statements.{spans_in}
use Rattle.run_inputs.specs.declared.limits.TheConstants.{MOST_BATCH_BYTES, MOST_POOL_WORDS}
use Rattle.run_inputs.specs.declared.limits.TheConstants.{MOST_SCANS, MOST_STATEMENTS}

-- the run stops for this where a number passes its limit
abbrev pub past : ℕ → ℕ → Stop → Option Stop
past limit n s = if nat_lt limit n then Some s else None

-- ---- the table

abbrev pub long_table : List ℕ → Option Stop
long_table text = past MOST_TEXT_BYTES (length text) stop.TableTooLong

-- why a list of records is no table
abbrev pub load_stop : Option LoadRefusal → Option Stop
load_stop None = None
load_stop (Some refusal.NoHeader) = Some stop.NoHeader
load_stop (Some (refusal.TooManyColumns columns)) = Some (stop.Columns columns)
load_stop (Some (refusal.LongName column)) = Some (stop.LongName column)
load_stop (Some (refusal.TwiceNamed first second)) = Some (stop.TwiceNamed first second)
load_stop (Some (refusal.Ragged row fields)) = Some (stop.Ragged row fields)
load_stop (Some refusal.TooManyRows) = Some stop.TooManyRows
load_stop (Some refusal.Memory) = Some stop.Memory

-- the table has at most MOST_CHUNKS chunks
abbrev pub chunks_stop : ℕ → ℕ → Option Stop
chunks_stop per rows = past MOST_CHUNKS (chunk_count rows per) (stop.Chunks (chunk_count rows per))

-- ---- the frames

-- the least number of frames that is enough: the pieces of three chunks for each worker, and of one more
abbrev pub frames_needed : ℕ → Layout → ℕ → ℕ
frames_needed workers layout columns = (3 * workers + 1) * groups_in layout columns

-- so many frames there are: those that are asked for, or else the least number that is enough
abbrev pub frames_given : ℕ → Option ℕ → Layout → ℕ → ℕ
frames_given workers None layout columns = frames_needed workers layout columns
frames_given workers (Some frames) layout columns = frames

-- how many words the frames have together; each has those of the greatest piece
abbrev pub words_given : ℕ → Option ℕ → Layout → ℕ → ℕ → ℕ → ℕ
words_given workers frames layout columns per rows = frames_given workers frames layout columns * word_count layout
    columns (min per rows)

-- the frames are enough, and have at most MOST_POOL_WORDS words
abbrev pub frames_stop : ℕ → Option ℕ → Layout → ℕ → ℕ → ℕ → Option Stop
frames_stop workers frames layout columns per rows =
    or_else (past (frames_given workers frames layout columns) (frames_needed workers layout columns)
    (stop.FramesNeeded (frames_needed workers layout columns)))
    (past MOST_POOL_WORDS (words_given workers frames layout columns per rows)
    (stop.FrameWords (words_given workers frames layout columns per rows)))

-- why a table with so many columns and rows stops the run
abbrev pub size_stop : Request → ℕ → ℕ → Option Stop
size_stop r columns rows = or_else (chunks_stop r.per rows) (frames_stop r.workers r.frames r.layout columns r.per rows)

abbrev pub table_size_stop : Request → Values → Option Stop
table_size_stop r t = size_stop r (length t.columns) (length t.rows)

-- why a text that is short enough stops the run as its table
abbrev pub short_table_stop : Request → List ℕ → Option Stop
short_table_stop r text = or_else (load_stop (refusal_of (table_records text)))
    (table_size_stop r (table_of (table_records text)))

-- why the text of the table stops the run
abbrev pub table_stop : Request → List ℕ → Option Stop
table_stop r text = or_else (long_table text) (short_table_stop r text)

-- ---- the batch

abbrev pub long_batch : List ℕ → Option Stop
long_batch text = past MOST_BATCH_BYTES (length text) stop.BatchTooLong

-- there are at most MOST_STATEMENTS statements, and at most MOST_SCANS scans
abbrev pub count_stop : ℕ → ℕ → Option Stop
count_stop parts statements = or_else (past MOST_STATEMENTS statements (stop.Statements statements))
    (past MOST_SCANS (parts * statements) (stop.Scans (parts * statements)))

-- why a text that is short enough stops the run as its batch
abbrev pub short_batch_stop : Request → List ℕ → Option Stop
short_batch_stop r text = count_stop r.parts (length (spans_in text))

-- why the text of the batch stops the run
abbrev pub batch_stop : Request → List ℕ → Option Stop
batch_stop r text = or_else (long_batch text) (short_batch_stop r text)

-- ---- both

-- a text that isn't there is a fault
abbrev pub stop_in : Stop → (List ℕ → Option Stop) → Option (List ℕ) → Option Stop
stop_in fault why None = Some fault
stop_in fault why (Some text) = why text

-- THE FIRST STOP of a request, by the texts of its table and its batch: the table is judged before the batch
abbrev pub first_stop : Request → Option (List ℕ) → Option (List ℕ) → Option Stop
first_stop r table batch = or_else (stop_in stop.TableFault (table_stop r) table)
    (stop_in stop.BatchFault (batch_stop r) batch)
