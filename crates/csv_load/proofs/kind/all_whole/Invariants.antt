use Rattle.std.proofs.Common.{◌≡◌, drop}
use Rattle.std.specs.List.{list_all}
use Rattle.csv_load.specs.Kinds.{is_whole}
use Rattle.csv_load.proofs.kind.all_whole.Given as goal

abbrev pub invariant-loop-place : goal.invariant-loop-place
invariant-loop-place l = list_all is_whole l.texts ≡ list_all is_whole (drop l.place l.texts)
