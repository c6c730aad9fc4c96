use Rattle.std.proofs.Common.{◌≡◌, drop}
use Rattle.csv.specs.Records.{fields_of}
use Rattle.prepare_rules.specs.Columns.{places_from}
use Rattle.prepare_rules.proofs.Choosing.{onto}
use Rattle.prepare_rules.proofs.columns.places_of.Given as goal

abbrev pub invariant-loop-word : goal.invariant-loop-word
invariant-loop-word l = onto l.places.items (places_from (fields_of l.names) l.word (drop l.word l.columns)) ≡ places_from (fields_of l.names) 0 l.columns
