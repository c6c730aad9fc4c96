use Rattle.std.proofs.Common.{◌≡◌, [], replicate}
use Rattle.csv_load.proofs.records.no_columns.Given as goal

abbrev pub invariant-loop-place : goal.invariant-loop-place
invariant-loop-place l = l.columns.items ≡ replicate l._place []
