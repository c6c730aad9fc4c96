use Rattle.std.proofs.Common.{◌≡◌}
use Rattle.trial_query.proofs.firsts.first_of.Given as goal

abbrev pub invariant-loop-number : goal.invariant-loop-number
invariant-loop-number l = l.top.plan ≡ l.plan
