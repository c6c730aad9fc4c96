use Rattle.std.proofs.Common.{◌∙◌, arith, sym}
use Rattle.csv.specs.Records.{fields_of}
use Rattle.prepare_page.proofs.Below.{some-found, some-next, some-none}
use Rattle.prepare_page.specs.Headers.{is_under}
use Rattle.prepare_page.proofs.header.some_under.Goals as goal

pub loop-column-init : goal.loop-column-init
loop-column-init c = record {
  within = omega arith;
  none = some-none (is_under c.args.kinds.now (fields_of c.args.first.now) c.args.survey.now);
}

pub returns-then-is_under : goal.returns-then-is_under
returns-then-is_under c = sym (some-found (is_under c.args.kinds.now (fields_of c.args.first.now) c.args.survey.now) c.loop-column.column
    c.args.survey.now.width (sym c.is_under.ensures ∙ c.if-is_under.true) c.loop-column-test.true)

pub loop-column-preserved : goal.loop-column-preserved
loop-column-preserved c = record {
  within = omega (arith, c.loop-column-test.true);
  none = some-next (is_under c.args.kinds.now (fields_of c.args.first.now) c.args.survey.now) c.loop-column.column c.loop-column.invariant.none
      (sym c.is_under.ensures ∙ c.if-is_under.false);
}
