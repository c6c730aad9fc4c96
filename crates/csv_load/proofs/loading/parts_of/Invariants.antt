use Rattle.std.proofs.Common.{◌≡◌, map}
use Rattle.csv_load.proofs.loading.parts_of.Given as goal

abbrev pub invariant-loop-column : goal.invariant-loop-column
invariant-loop-column l = record {
  cells : l.columns.items ≡ map (λ column. column.cells) l.yielded;
  dicts : l.dicts.items ≡ map (λ column. column.dict) l.yielded;
}
