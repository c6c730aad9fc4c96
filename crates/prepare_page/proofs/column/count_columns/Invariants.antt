use Rattle.std.proofs.Common.{◌≡◌, ◌≤◌}
use Rattle.prepare_page.specs.Columns.{count_below, is_of}
use Rattle.prepare_page.proofs.column.count_columns.Given as goal

abbrev pub invariant-loop-column : goal.invariant-loop-column
invariant-loop-column l = record {
  within : l.column ≤ l.survey.width;
  low : l.count ≤ l.column;
  value : l.count ≡ count_below (λ column. is_of l.survey column l.sort.some.now l.sort.none.now) l.column;
}
