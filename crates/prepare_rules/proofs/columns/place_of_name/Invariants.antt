use Rattle.std.proofs.Common.{◌≡◌, drop}
use Rattle.csv.specs.Records.{fields_of}
use Rattle.prepare_rules.specs.Columns.{place_from}
use Rattle.prepare_rules.proofs.columns.place_of_name.Given as goal

abbrev pub invariant-loop-at : goal.invariant-loop-at
invariant-loop-at l = place_from l.at (drop l.at (fields_of l.names)) l.name ≡ place_from 0 (fields_of l.names) l.name
