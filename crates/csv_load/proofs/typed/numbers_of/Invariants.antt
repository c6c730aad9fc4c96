use Rattle.std.proofs.Common.{◌≡◌, ◌<◌, ℕ, [], length, get_or, true, None}
use Rattle.csv_load.specs.Kinds.{is_of}
use Rattle.csv_load.specs.Typed.{IsCell}
use Rattle.table_core.specs.Columns.{number_cell}
use Rattle.csv_load.proofs.typed.numbers_of.Given as goal

abbrev pub invariant-loop-place : goal.invariant-loop-place
invariant-loop-place l = record {
  size : length l.numbers ≡ l.place;
  read : (i : ℕ) → i < l.place → is_of l.kind (get_or l.texts i []) ≡ true → IsCell l.kind [] (get_or l.texts i []) (number_cell (get_or l.numbers i None));
}
