use Rattle.std.proofs.Common.{arith}
use Rattle.inspect_places.proofs.Columns.{spot_next}
use Rattle.inspect_places.proofs.lines.line_and_column.Goals as goal

pub loop-i-preserved : goal.loop-i-preserved
loop-i-preserved c =
    let old = c.loop-i.place in let new = c.behind-place.result in
    spot_next c.args.bytes.now c.loop-i.i old.line old.column new.line new.column (omega (arith, c.loop-i-test.true, c.requires)) c.loop-i.invariant c.behind-place.ensures.line c.behind-place.ensures.column
