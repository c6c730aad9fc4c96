use Rattle.std.proofs.Common.{length}
use Rattle.trial_threads.proofs.pools.halves.+all_at_once+fn-all_at_once-join_mut+arg2+fn-all_at_once-join_mut+arg3.Given as goal

abbrev pub decreases-all_at_once : goal.decreases-all_at_once
decreases-all_at_once g l = length l.all.now

abbrev pub decreases-join_mut+arg2 : goal.decreases-join_mut+arg2
decreases-join_mut+arg2 g l = length l.front.now

abbrev pub decreases-join_mut+arg3 : goal.decreases-join_mut+arg3
decreases-join_mut+arg3 g l = length l.back.now
