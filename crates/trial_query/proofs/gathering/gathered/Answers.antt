use Rattle.std.proofs.Common.{arith}
use Rattle.trial_query.proofs.gathering.gathered.Goals as goal

pub loop-number-preserved : goal.loop-number-preserved
loop-number-preserved g c =
    let now = c.loop-number.invariant in
    let step = c.add_row.ensures in record { plan = step.plan c.args.plan.now now.plan; few = omega (arith, step.count, now.few) }
