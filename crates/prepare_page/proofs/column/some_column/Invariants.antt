use Rattle.std.proofs.Common.{◌≡◌, ◌≤◌, false}
use Rattle.prepare_page.specs.Columns.{is_of, some_below}
use Rattle.prepare_page.proofs.column.some_column.Given as goal

abbrev pub invariant-loop-column : goal.invariant-loop-column
invariant-loop-column l = record {
  within : l.column ≤ l.survey.width;
  none : some_below (λ column. is_of l.survey column l.sort.some.now l.sort.none.now) l.column ≡ false;
}
