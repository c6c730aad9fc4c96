use Rattle.std.proofs.Common.{◌∙◌, arith, sym}
use Rattle.prepare_page.proofs.Below.{some-found, some-next, some-none}
use Rattle.prepare_page.specs.Columns.{is_of}
use Rattle.prepare_page.proofs.column.some_column.Goals as goal

pub loop-column-init : goal.loop-column-init
loop-column-init c = record {
  within = omega arith;
  none = some-none (λ column. is_of c.args.survey.now column c.args.sort.now.some.now c.args.sort.now.none.now);
}

pub returns-then-is_of : goal.returns-then-is_of
returns-then-is_of c = sym (some-found (λ column. is_of c.args.survey.now column c.args.sort.now.some.now c.args.sort.now.none.now) c.loop-column.column
    c.args.survey.now.width (sym c.is_of.ensures ∙ c.if-is_of.true) c.loop-column-test.true)

pub loop-column-preserved : goal.loop-column-preserved
loop-column-preserved c = record {
  within = omega (arith, c.loop-column-test.true);
  none = some-next (λ column. is_of c.args.survey.now column c.args.sort.now.some.now c.args.sort.now.none.now) c.loop-column.column c.loop-column.invariant.none
      (sym c.is_of.ensures ∙ c.if-is_of.false);
}
