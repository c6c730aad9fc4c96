use Rattle.std.proofs.Common.{◌≡◌, ◌≤◌, false}
use Rattle.csv.specs.Records.{fields_of}
use Rattle.prepare_page.specs.Columns.{some_below}
use Rattle.prepare_page.specs.Naming.{is_again}
use Rattle.prepare_page.proofs.naming.are_twice.Given as goal

abbrev pub invariant-loop-column : goal.invariant-loop-column
invariant-loop-column l = record {
  within : l.column ≤ l.count;
  none : some_below (is_again (fields_of l.names)) l.column ≡ false;
}
