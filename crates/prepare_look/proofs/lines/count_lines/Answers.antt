use Rattle.std.proofs.Common.{◌<◌, length, arith}
use Rattle.prepare_look.proofs.Stepping.{count-done, count-more, ends-done, ends-more, pairs-done, pairs-more}
use Rattle.prepare_look.specs.Lines.{is_feed, is_return}
use Rattle.prepare_look.proofs.lines.count_lines.Goals as goal

pub loop-i-preserved : goal.loop-i-preserved
loop-i-preserved c =
    let xs = c.args.text.now in
    let i = c.loop-i.i in
    let lt : i < length xs = c.loop-i-test.true in
    let feeds = count-more is_feed xs i lt in
    let returns = count-more is_return xs i lt in
    let pairs = pairs-more c.loop-i.behind_return xs i lt in
    let ends = ends-more c.loop-i.behind_return xs i lt in
    record {
      few = (omega arith, omega arith, omega arith, omega arith);
      feeds = omega (arith, feeds);
      returns = omega (arith, returns);
      pairs = omega (arith, pairs);
      ends = omega (arith, ends);
    }

pub returns-clause-feeds : goal.returns-clause-feeds
returns-clause-feeds c = omega (arith, count-done is_feed c.args.text.now c.loop-i.i c.loop-i-test.false)

pub returns-clause-returns : goal.returns-clause-returns
returns-clause-returns c = omega (arith, count-done is_return c.args.text.now c.loop-i.i c.loop-i-test.false)

pub returns-clause-pairs : goal.returns-clause-pairs
returns-clause-pairs c = omega (arith, pairs-done c.loop-i.behind_return c.args.text.now c.loop-i.i c.loop-i-test.false)

pub returns-clause-ends : goal.returns-clause-ends
returns-clause-ends c = omega (arith, ends-done c.loop-i.behind_return c.args.text.now c.loop-i.i c.loop-i-test.false)
