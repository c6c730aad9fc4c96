use Rattle.std.proofs.Common.{◌∙◌, arith, sym}
use Rattle.csv.specs.Records.{fields_of}
use Rattle.prepare_page.proofs.Below.{some-found, some-next, some-none}
use Rattle.prepare_page.specs.Naming.{is_again}
use Rattle.prepare_page.proofs.naming.are_twice.Goals as goal

pub loop-column-init : goal.loop-column-init
loop-column-init c = record {
  within = omega arith;
  none = some-none (is_again (fields_of c.args.names.now));
}

pub returns-then-is_again : goal.returns-then-is_again
returns-then-is_again c = sym (some-found (is_again (fields_of c.args.names.now)) c.loop-column.column
    c.args.count (sym c.is_again.ensures ∙ c.if-is_again.true) c.loop-column-test.true)

pub loop-column-preserved : goal.loop-column-preserved
loop-column-preserved c = record {
  within = omega (arith, c.loop-column-test.true);
  none = some-next (is_again (fields_of c.args.names.now)) c.loop-column.column c.loop-column.invariant.none
      (sym c.is_again.ensures ∙ c.if-is_again.false);
}
