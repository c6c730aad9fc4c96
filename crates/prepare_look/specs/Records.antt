-- The records that a reader of csv has left.
use Rattle.std.specs.Prelude.{◌+◌, ◌≡◌, ⊤, ℕ, true, false, List, [], ◌∷◌}
use Rattle.std.specs.Prelude.{length, Option, Some, None, option_map, if◌then◌else◌}
use Rattle.csv.specs.Machine.{ends_at_end}
use Rattle.csv.specs.Reading.{default_config, records, records_from, strip_bom, source_of}
use Rattle.csv.specs.Reading.{reader_config, reader_trim, reader_state, is_flexible, has_failed, Ready}
use Rattle.csv.specs.declared.parser.Config.{Config}
use Rattle.csv.specs.declared.parser.State.{State}
use Rattle.csv.specs.declared.reader.Reader.{Reader}
use Rattle.csv.specs.declared.reader.Trim.TheVariants as trim

-- the fields of a record
abbrev pub Record : Type 0
Record = List (List ℕ)

-- how records are marked: the byte between fields, and the one around a field
abbrev pub format : ℕ → ℕ → Config
format delimiter quote = record default_config { delimiter = delimiter; quote = quote }

-- the records of a text that is marked so; one leading byte order mark is no part of it
abbrev pub text_records : Config → List ℕ → List Record
text_records cfg text = records cfg (strip_bom text)

-- the records from a state on
abbrev pub records_at : Config → State → List ℕ → List Record
records_at cfg s xs = records_from cfg (length xs + 1) s xs

-- the records that a reader has left, where its bytes are known and it stands between two of them
abbrev pub records_left : {R : Type 0} → (R → Option (List ℕ)) → Reader R → Option (List Record)
records_left rem reader =
    if ends_at_end (reader_state reader) then None
    else option_map (records_at (reader_config reader) (reader_state reader)) (source_of rem reader)

-- a reader that takes each record as it comes
pub record TakesEach {R : Type 0} (reader : Reader R) : Type 0 where
  pub untrimmed : reader_trim reader ≡ trim.None
  pub flexible : is_flexible reader ≡ true
  pub ready : Ready reader
  pub going : has_failed reader ≡ false

-- known records lose their first, which is this one
abbrev pub Takes : Option (List Record) → Record → Option (List Record) → Type 0
Takes None fields new = ⊤
Takes (Some rows) fields None = ⊥
Takes (Some rows) fields (Some rest) = rows ≡ fields ∷ rest

-- no known record is left
abbrev pub IsOver : Option (List Record) → Type 0
IsOver None = ⊤
IsOver (Some rows) = rows ≡ []
