use Rattle.std.proofs.Common.{◌≡◌, drop, take}
use Rattle.csv.specs.Records.{fields_of}
use Rattle.csv_load.specs.Judged.{first_equal}
use Rattle.csv_load.proofs.header.equal_before.Given as goal

abbrev pub invariant-loop-place : goal.invariant-loop-place
invariant-loop-place l = first_equal l.name 0 (take l.end (fields_of l.row)) ≡ first_equal l.name l.place (drop l.place (take l.end (fields_of l.row)))
