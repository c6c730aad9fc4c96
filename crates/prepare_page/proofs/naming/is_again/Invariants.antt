use Rattle.std.proofs.Common.{◌≡◌, ◌≤◌, false}
use Rattle.csv.specs.Records.{fields_of}
use Rattle.prepare_page.specs.Columns.{some_below}
use Rattle.prepare_page.specs.Naming.{have_one_name}
use Rattle.prepare_page.proofs.naming.is_again.Given as goal

abbrev pub invariant-loop-before : goal.invariant-loop-before
invariant-loop-before l = record {
  within : l.before ≤ l.column;
  none : some_below (have_one_name (fields_of l.names) l.column) l.before ≡ false;
}
