use Rattle.std.proofs.Common.{◌≡◌, []}
use Rattle.csv.specs.Records.{fields_of, partial_of}
use Rattle.prepare_rules.specs.Outcome.{counted_names}
use Rattle.prepare_rules.proofs.names.counted_names.Given as goal

abbrev pub invariant-loop-place : goal.invariant-loop-place
invariant-loop-place l = record {
  counted : fields_of l.names ≡ counted_names l.place;
  clear : partial_of l.names ≡ [];
}
