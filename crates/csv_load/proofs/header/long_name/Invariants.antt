use Rattle.std.proofs.Common.{◌≡◌, drop}
use Rattle.csv.specs.Records.{fields_of}
use Rattle.csv_load.specs.Judged.{first_long}
use Rattle.csv_load.proofs.header.long_name.Given as goal

abbrev pub invariant-loop-place : goal.invariant-loop-place
invariant-loop-place l = first_long 0 (fields_of l.row) ≡ first_long l.place (drop l.place (fields_of l.row))
