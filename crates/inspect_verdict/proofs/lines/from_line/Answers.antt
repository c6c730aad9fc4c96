use Rattle.inspect_verdict.proofs.Linewise.{from_more}
use Rattle.inspect_verdict.proofs.lines.from_line.Goals as goal

pub loop-number-preserved : goal.loop-number-preserved
loop-number-preserved c = record {
  from = from_more c.args.line c.loop-number.number c.loop-number.left.now c.behind_first-left.result.now c.args.text.now c.loop-number-test.true c.behind_first-left.ensures c.loop-number.invariant.from;
}
