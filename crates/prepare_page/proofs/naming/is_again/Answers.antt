use Rattle.std.proofs.Common.{◌∙◌, arith, sym}
use Rattle.csv.specs.Records.{fields_of}
use Rattle.prepare_page.proofs.Below.{some-found, some-next, some-none}
use Rattle.prepare_page.specs.Naming.{have_one_name}
use Rattle.prepare_page.proofs.naming.is_again.Goals as goal

pub loop-before-init : goal.loop-before-init
loop-before-init c = record {
  within = omega arith;
  none = some-none (have_one_name (fields_of c.args.names.now) c.args.column);
}

pub returns-then-have_one_name : goal.returns-then-have_one_name
returns-then-have_one_name c = sym (some-found (have_one_name (fields_of c.args.names.now) c.args.column) c.loop-before.before
    c.args.column (sym c.have_one_name.ensures ∙ c.if-have_one_name.true) c.loop-before-test.true)

pub loop-before-preserved : goal.loop-before-preserved
loop-before-preserved c = record {
  within = omega (arith, c.loop-before-test.true);
  none = some-next (have_one_name (fields_of c.args.names.now) c.args.column) c.loop-before.before c.loop-before.invariant.none
      (sym c.have_one_name.ensures ∙ c.if-have_one_name.false);
}
