use Rattle.std.proofs.Common.{◌≡◌, drop}
use Rattle.std.specs.List.{list_all}
use Rattle.csv_load.specs.Kinds.{is_decimal}
use Rattle.csv_load.proofs.kind.all_decimal.Given as goal

abbrev pub invariant-loop-place : goal.invariant-loop-place
invariant-loop-place l = list_all (is_decimal l.places) l.texts ≡ list_all (is_decimal l.places) (drop l.place l.texts)
