use Rattle.std.proofs.Common.{◌≡◌, ◌≤◌, false}
use Rattle.csv.specs.Records.{fields_of}
use Rattle.prepare_page.specs.Columns.{some_below}
use Rattle.prepare_page.specs.Headers.{is_under}
use Rattle.prepare_page.proofs.header.some_under.Given as goal

abbrev pub invariant-loop-column : goal.invariant-loop-column
invariant-loop-column l = record {
  within : l.column ≤ l.survey.width;
  none : some_below (is_under l.kinds (fields_of l.first) l.survey) l.column ≡ false;
}
