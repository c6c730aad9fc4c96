use Rattle.std.proofs.Common.{◌≡◌, drop}
use Rattle.csv.specs.Records.{fields_of}
use Rattle.prepare_rules.specs.Columns.{lost_name}
use Rattle.prepare_rules.proofs.columns.lost_name.Given as goal

abbrev pub invariant-loop-word : goal.invariant-loop-word
invariant-loop-word l = lost_name (fields_of l.names) l.word (drop l.word l.renames) ≡ lost_name (fields_of l.names) 0 l.renames
