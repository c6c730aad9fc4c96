use Rattle.std.proofs.Common.{◌≡◌, ◌≤◌, false}
use Rattle.prepare_page.specs.Advice.{acts_on}
use Rattle.prepare_page.specs.Columns.{some_below}
use Rattle.prepare_page.proofs.advice.act_on.Given as goal

abbrev pub invariant-loop-column : goal.invariant-loop-column
invariant-loop-column l = record {
  within : l.column ≤ l.survey.width;
  none : some_below (acts_on l.survey l.reading l.kinds) l.column ≡ false;
}
