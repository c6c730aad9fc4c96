use Rattle.std.proofs.Common.{◌≤◌}
use Rattle.query_gather.specs.Partial.{FitsPlan, row_count}
use Rattle.trial_query.proofs.gathering.gathered.Given as goal

abbrev pub invariant-loop-number : goal.invariant-loop-number
invariant-loop-number g l = record {
  plan : FitsPlan l.plan l.partial;
  few : row_count l.partial ≤ l.number-index;
}
