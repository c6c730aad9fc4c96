use Rattle.std.proofs.Common.{◌≡◌, drop}
use Rattle.csv.specs.Records.{fields_of}
use Rattle.csv_load.specs.Judged.{first_twice}
use Rattle.csv_load.proofs.header.twice_named.Given as goal

abbrev pub invariant-loop-second : goal.invariant-loop-second
invariant-loop-second l = first_twice (fields_of l.row) 0 (fields_of l.row) ≡ first_twice (fields_of l.row) l.second (drop l.second (fields_of l.row))
