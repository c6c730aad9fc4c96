-- What the words ask for.
use Rattle.std.specs.Prelude.{◌≡◌, ◌&&◌, ◌||◌, ⊤, Bool, not, List, [], ◌∷◌, Option, Some, None, Result, Ok, Err, codes}
use Rattle.std.specs.Prelude.{if◌then◌else◌, map, string_bytes, String}
use Rattle.std.specs.declared.alloc.Global.{Global}
use Rattle.std.specs.Str.{bytes_eq}
use Rattle.clap.specs.Faults.{fault_of}
use Rattle.clap.specs.Kinds.{IsAmong, Kinds}
use Rattle.clap.specs.Simple.{subcommand_of}
use Rattle.clap.specs.Values.{kind_of}
use Rattle.clap.specs.Walk.{Row, Text, first_of}
use Rattle.prepare_rules.specs.declared.rules.Mark.{Mark}
use Rattle.prepare_rules.specs.declared.rules.Mark.TheVariants as mark
use Rattle.prepare_words.specs.Command.{prepare}
use Rattle.prepare_words.specs.Reading.{◌>>=◌, Fails, Faulty, alone, columns_in, pads_of, parts_of, quote_of}
use Rattle.prepare_words.specs.Reading.{delimiter_of, encoding_of, limit_of, order_of, renames_in, skip_of, wrong}
use Rattle.prepare_words.specs.Views.{WritingIs, byte_of, is_set, is_there, values_in, writing_view}
use Rattle.prepare_words.specs.declared.asked.Asked.{Asked}
use Rattle.prepare_words.specs.declared.asked.Asked.TheVariants as asked
use Rattle.prepare_words.specs.declared.fault.Fault.{Fault}
use Rattle.prepare_words.specs.declared.fault.Fault.TheVariants as fault
use Rattle.prepare_words.specs.declared.fault.Word.{Word}
use Rattle.prepare_words.specs.declared.fault.Word.TheVariants as word
use Rattle.prepare_words.specs.declared.refused.Refused.{Refused}
use Rattle.prepare_words.specs.declared.refused.Refused.TheVariants as refused

abbrev pub texts : List (String Global) → List Text
texts = map (λ s. string_bytes s)

abbrev pub file_of : Option Text → Result Text Faulty
file_of (Some file) = Ok file
file_of None = Err (wrong word.File [])

abbrev pub mark_of : Bool → Mark
mark_of is_comma = if is_comma then mark.Comma else mark.Point

-- the first rule on numbers that acts nowhere
abbrev pub lone_rule : List Row → Option Word
lone_rule rows = if is_there (codes "numbers") rows then None
    else if is_set (codes "decimal-comma") rows then Some word.DecimalComma
    else if is_there (codes "thousands") rows then Some word.Thousands
    else if is_set (codes "exponents") rows then Some word.Exponents
    else if is_there (codes "places") rows then Some word.Places else None

-- the same, and before it marks for missing values, which act in columns of dates too
abbrev pub lone_mark : List Row → Option Word
lone_mark rows = if is_there (codes "numbers") rows || is_there (codes "date-columns") rows then lone_rule rows
    else if is_there (codes "missing") rows then Some word.Missing else lone_rule rows

-- the same, and before it an order of dates without their columns, or columns without the order
abbrev pub lone_date : List Row → Option Word
lone_date rows = if is_there (codes "dates") rows && not (is_there (codes "date-columns") rows) then Some word.Dates
    else if is_there (codes "date-columns") rows && not (is_there (codes "dates") rows) then Some word.DateColumns
    else lone_mark rows

-- the same, and before it rounding to no limit
abbrev pub lone_word : List Row → Option Word
lone_word rows = if is_set (codes "round") rows && not (is_there (codes "places") rows) then Some word.Round
    else lone_date rows

abbrev pub unless_alone : Option Word → Result WritingIs Faulty → Result WritingIs Faulty
unless_alone (Some w) rest = Err (alone w)
unless_alone None rest = rest

-- WHAT THE WORDS OF `write` ASK FOR, by what clap reads of them: the first fault ends it
unfoldable pub writing_of : List Row → Result WritingIs Faulty
writing_of rows = do
  file ← file_of (first_of (codes "FILE") rows)
  delimiter ← delimiter_of (first_of (codes "delimiter") rows)
  quote ← quote_of (byte_of delimiter) (first_of (codes "quote") rows)
  encoding ← encoding_of (first_of (codes "encoding") rows)
  skip ← skip_of (first_of (codes "skip") rows)
  pads ← pads_of (first_of (codes "ragged") rows)
  parts ← parts_of (mark_of (is_set (codes "decimal-comma") rows)) (first_of (codes "thousands") rows)
  limit ← limit_of (is_set (codes "round") rows) (first_of (codes "places") rows)
  order ← order_of (first_of (codes "dates") rows)
  unless_alone (lone_word rows) (do
    columns ← columns_in word.Columns (values_in (codes "columns") rows)
    renames ← renames_in (values_in (codes "rename") rows)
    numbers ← columns_in word.Numbers (values_in (codes "numbers") rows)
    dates ← columns_in word.DateColumns (values_in (codes "date-columns") rows)
    Ok (record {
      file = file;
      is_auto = is_set (codes "auto") rows;
      is_quiet = is_set (codes "quiet") rows;
      has_encoding = is_there (codes "encoding") rows;
      has_delimiter = is_there (codes "delimiter") rows;
      has_skip = is_there (codes "skip") rows;
      delimiter = delimiter;
      quote = quote;
      encoding = encoding;
      skip = skip;
      has_names = not (is_set (codes "no-header") rows);
      columns = columns;
      renames = renames;
      numbers = numbers;
      dates = dates;
      order = order;
      missing = values_in (codes "missing") rows;
      mark = mark_of (is_set (codes "decimal-comma") rows);
      parts = parts;
      exponents = is_set (codes "exponents") rows;
      limit = limit;
      trims = is_set (codes "trim") rows;
      pads = pads;
    }))

pub data AskedIs : Type 0 where
  look_is : Text → AskedIs
  write_is : WritingIs → AskedIs

abbrev pub asked_view : Asked → AskedIs
asked_view (asked.Look file) = look_is file.now
asked_view (asked.Write w) = write_is (writing_view w)

-- what clap's rows of `write` ask for
abbrev pub written_by : List Row → Result AskedIs Faulty
written_by rows = writing_of rows >>= λ w. Ok (write_is w)

-- what clap's rows of `look` ask for
abbrev pub looked_by : List Row → Result AskedIs Faulty
looked_by rows = file_of (first_of (codes "FILE") rows) >>= λ file. Ok (look_is file)

-- what clap's rows of a subcommand ask for
abbrev pub done_by : Text → List Row → Result AskedIs Faulty
done_by name rows = if bytes_eq name (codes "look") then looked_by rows else written_by rows

-- what the words of a subcommand ask for
abbrev pub asked_by : Option (Text × List Row) → Result AskedIs Faulty
asked_by None = Err (wrong word.File [])
asked_by (Some s) = done_by s.0 s.1

-- refused for a fault in the values of options
abbrev pub IsRuleFault : Result AskedIs Faulty → Refused → Type 0
IsRuleFault asked (refused.Said error) = ⊥
IsRuleFault asked (refused.Rule f) = Fails f asked

-- what accepted words ask for
abbrev pub asked_in : Kinds → List Text → Option (Result AskedIs Faulty)
asked_in [] words = Some (asked_by (subcommand_of prepare words))
asked_in (k ∷ ks) words = None

-- WHAT THE WORDS ASK FOR: nothing where clap finds a fault in them, or where they ask for help or the version
abbrev pub asked_of : List Text → Option (Result AskedIs Faulty)
asked_of words = asked_in (fault_of prepare words) words

-- words that clap takes have this fault
abbrev pub HasFault : List Text → Fault → Type 0
HasFault words fault.Memory = ⊤
HasFault words (fault.Value w value) = asked_of words ≡ Some (Err (wrong w value.now))
HasFault words (fault.Alone w) = asked_of words ≡ Some (Err (alone w))

-- why they are refused: clap's first fault, help and the version among them; or the first fault in the values of
-- options, where clap finds none; or memory ran out
abbrev pub IsRefusedFor : List Text → Refused → Type 0
IsRefusedFor words (refused.Said error) = IsAmong (kind_of error) (fault_of prepare words)
IsRefusedFor words (refused.Rule f) = HasFault words f
