use Rattle.std.proofs.Common.{take, ◌-◌, length, arith}
use Rattle.inspect_verdict.proofs.PartLines.{line_counted, none_counted}
use Rattle.inspect_verdict.proofs.ends.line_of_end.Goals as goal
use Rattle.inspect_verdict.proofs.ends.line_of_end.Goals.{then-byte-eq10, else-byte-eq10}

pub loop-byte-preserved : goal.loop-byte-preserved
loop-byte-preserved c =
    let bytes = take (length c.args.text.now - length c.args.end.now) c.args.text.now in
    let is = c.loop-byte.invariant in
    record {
      line = elim c.if-byte-eq10.branch [
        | then-byte-eq10 w ↦ line_counted bytes c.loop-byte.byte-index c.loop-byte.line _ c.loop-byte-test.true is.line w.if-byte-eq10.true w.line-is
        | else-byte-eq10 w ↦ none_counted bytes c.loop-byte.byte-index c.loop-byte.line _ c.loop-byte-test.true is.line w.if-byte-eq10.false w.line-is
      ];
      few = elim c.if-byte-eq10.branch [ then-byte-eq10 w ↦ omega (arith, w.line-is, is.few) | else-byte-eq10 w ↦ omega (arith, w.line-is, is.few) ];
    }
