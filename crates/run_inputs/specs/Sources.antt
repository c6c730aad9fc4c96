-- Where the texts of the table and of the batch come from.
use Rattle.std.specs.Prelude.{ℕ, ◌≤◌, List, Option, Some, None}
use Rattle.command_words.specs.declared.limits.TheConstants.{MOST_GENERATED_ROWS}
use Rattle.command_words.specs.Options.{TableIs, generated, file, BatchIs}
use Rattle.command_words.specs.Options.{generated_batch, batch_file, table_of, batch_of}
use Rattle.run_inputs.specs.GeneratedTable.{table_text}
use Rattle.run_inputs.specs.GeneratedBatch.{batch_text}

-- a text is made, or it is the file of this name
pub data Source : Type 0 where
  made : List ℕ → Source
  stored : List ℕ → Source

abbrev pub source_of_table : TableIs → Source
source_of_table (generated seed rows) = made (table_text seed rows)
source_of_table (file name) = stored name

-- a word that is accepted names a table; any other is taken as a file's name
abbrev pub source_named : List ℕ → Option TableIs → Source
source_named word None = stored word
source_named word (Some t) = source_of_table t

abbrev pub table_source : List ℕ → Source
table_source word = source_named word (table_of word)

-- a generated table has at most MOST_GENERATED_ROWS rows
abbrev pub HasFewRows : TableIs → Type 0
HasFewRows (generated seed rows) = rows ≤ MOST_GENERATED_ROWS
HasFewRows (file name) = Unit {0}

abbrev pub source_of_batch : BatchIs → Source
source_of_batch generated_batch = made batch_text
source_of_batch (batch_file name) = stored name

abbrev pub batch_source : List ℕ → Source
batch_source word = source_of_batch (batch_of word)

-- the text, by the bytes of each file that there is
abbrev pub text_in : Source → (List ℕ → Option (List ℕ)) → Option (List ℕ)
text_in (made text) files = Some text
text_in (stored name) files = files name
