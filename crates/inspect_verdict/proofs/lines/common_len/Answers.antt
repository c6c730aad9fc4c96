use Rattle.std.proofs.Common.{arith}
use Rattle.inspect_verdict.proofs.Linewise.{common_over}
use Rattle.inspect_verdict.proofs.lines.common_len.Goals as goal

pub returns-after-loop-end-clause-value : goal.returns-after-loop-end-clause-value
returns-after-loop-end-clause-value c =
    let over = common_over c.args.one.now c.args.other.now c.loop-end.end (omega (arith, c.min-both.ensures, c.loop-end-test.false)) in
    omega (arith, c.loop-end.invariant.same, over)
