-- csv's reader over a text in memory.
use Rattle.std.specs.Prelude.{ℕ, List, [], Option, Some, None, IsSome}
use Rattle.std.specs.Borrow.{Bor}
use Rattle.csv.specs.declared.reader.Reader.{Reader}
use Rattle.prepare_look.specs.Records.{Record, TakesEach, records_left}

-- the records that are left, where they are known
abbrev pub known : Option (List Record) → List Record
known None = []
known (Some rows) = rows

-- a reader over a text tells its bytes
abbrev pub bytes_of : Bor (List ℕ) → Option (List ℕ)
bytes_of b = Some b.now

abbrev pub text_left : Reader (Bor (List ℕ)) → List Record
text_left reader = known (records_left bytes_of reader)

-- it takes each record as it comes, and those that are left are known
pub record IsReading (reader : Reader (Bor (List ℕ))) : Type 0 where
  pub takes : TakesEach reader
  pub known : IsSome (records_left bytes_of reader)
