use Rattle.std.proofs.Common.{◌≡◌, ◌∙◌, Bool, ap, arith, ℕ}
use Rattle.prepare_look.specs.Lines.{one_if}
use Rattle.prepare_page.proofs.Below.{next-counted, none-counted}
use Rattle.prepare_page.specs.Columns.{is_of}
use Rattle.prepare_page.proofs.column.count_columns.Goals as goal

pub loop-column-init : goal.loop-column-init
loop-column-init c = record {
  within = omega arith;
  low = omega arith;
  value = none-counted (λ column. is_of c.args.survey.now column c.args.sort.now.some.now c.args.sort.now.none.now);
}

pub loop-column-preserved : goal.loop-column-preserved
loop-column-preserved c =
    let is : ℕ → Bool = λ column. is_of c.args.survey.now column c.args.sort.now.some.now c.args.sort.now.none.now in
    let one : c.one_if-count.result ≡ one_if (is c.loop-column.column) = c.one_if-count.ensures.value ∙ ap one_if c.is_of.ensures in
    record {
      within = omega (arith, c.loop-column-test.true);
      low = omega (arith, c.one_if-count.ensures.low, c.loop-column.invariant.low);
      value = omega (arith, one, next-counted is c.loop-column.column, c.loop-column.invariant.value);
    }
