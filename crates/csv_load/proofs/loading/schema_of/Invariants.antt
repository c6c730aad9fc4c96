use Rattle.std.proofs.Common.{◌≡◌, ◌+◌, length}
use Rattle.csv_load.specs.Finished.{columns_with}
use Rattle.csv_load.proofs.loading.schema_of.Given as goal

abbrev pub invariant-loop-name : goal.invariant-loop-name
invariant-loop-name l = record {
  place : l.place ≡ length l.yielded;
  columns : l.columns.items ≡ columns_with l.yielded l.typed;
  room : length l.yielded + length l.name-iterator.rest.items ≡ length l.typed;
}
