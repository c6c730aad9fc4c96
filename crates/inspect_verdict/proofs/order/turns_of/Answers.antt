use Rattle.std.proofs.Common.{arith}
use Rattle.inspect_verdict.proofs.Turning.{more_left}
use Rattle.inspect_verdict.proofs.order.turns_of.Goals as goal

pub loop-place-preserved : goal.loop-place-preserved
loop-place-preserved c =
    more_left c.args.story.now c.loop-place.place c.args.worker c.args.due.now c.loop-place.left.now c.in-Some.rest.now (omega (arith, c.loop-place-test.true)) c.loop-place.invariant c.in-Some.ensures.some
