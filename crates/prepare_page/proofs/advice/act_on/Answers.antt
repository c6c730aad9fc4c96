use Rattle.std.proofs.Common.{◌∙◌, arith, sym}
use Rattle.prepare_page.proofs.Below.{some-found, some-next, some-none}
use Rattle.prepare_page.specs.Advice.{acts_on}
use Rattle.prepare_page.proofs.advice.act_on.Goals as goal

pub loop-column-init : goal.loop-column-init
loop-column-init c = record {
  within = omega arith;
  none = some-none (acts_on c.args.survey.now c.args.reading c.args.kinds.now);
}

pub returns-then-acts_on : goal.returns-then-acts_on
returns-then-acts_on c = sym (some-found (acts_on c.args.survey.now c.args.reading c.args.kinds.now) c.loop-column.column
    c.args.survey.now.width (sym c.acts_on.ensures ∙ c.if-acts_on.true) c.loop-column-test.true)

pub loop-column-preserved : goal.loop-column-preserved
loop-column-preserved c = record {
  within = omega (arith, c.loop-column-test.true);
  none = some-next (acts_on c.args.survey.now c.args.reading c.args.kinds.now) c.loop-column.column c.loop-column.invariant.none
      (sym c.acts_on.ensures ∙ c.if-acts_on.false);
}
