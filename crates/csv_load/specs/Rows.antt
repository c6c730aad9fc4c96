-- The records of a table's text, by the words of `csv`.
use Rattle.std.specs.Prelude.{◌+◌, ◌≡◌, ℕ, true, false, List, [], length, Option, Some, None}
use Rattle.csv.specs.Machine.{ends_at_end}
use Rattle.csv.specs.Reading.{default_config, records, records_from, strip_bom, source_of}
use Rattle.csv.specs.Reading.{reader_config, reader_trim, reader_state, is_flexible, has_failed, Ready}
use Rattle.csv.specs.declared.parser.State.{State}
use Rattle.csv.specs.declared.reader.Reader.{Reader}
use Rattle.csv.specs.declared.reader.Trim.TheVariants as trim

-- every record of a text after one leading byte order mark, in the reader's default format
abbrev pub table_records : List ℕ → List (List (List ℕ))
table_records text = records default_config (strip_bom text)

-- the records that are left at a state, where the bytes are known
abbrev pub records_left : Option (List ℕ) → State → List (List (List ℕ))
records_left None s = []
records_left (Some xs) s = records_from default_config (length xs + 1) s xs

-- a reader that stands between two records and takes each as it comes
pub record IsBetween {R : Type 0} (rem : R → Option (List ℕ)) (reader : Reader R) : Type 0 where
  pub config : reader_config reader ≡ default_config
  pub untrimmed : reader_trim reader ≡ trim.None
  pub flexible : is_flexible reader ≡ true
  pub ready : Ready reader
  pub start : ends_at_end (reader_state reader) ≡ false
  pub going : has_failed reader ≡ false
  pub known : (xs : List ℕ) × (source_of rem reader ≡ Some xs)
