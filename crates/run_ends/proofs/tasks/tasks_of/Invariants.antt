use Rattle.std.proofs.Common.{◌≡◌, ◌++◌, ◌+◌, drop}
use Rattle.run_ends.specs.Tasks.{tasks_in}
use Rattle.run_ends.proofs.tasks.tasks_of.Given as goal

-- the tasks of the statements before this one are there
abbrev pub invariant-loop-outcome : goal.invariant-loop-outcome
invariant-loop-outcome l = record {
  query : l.query ≡ l.outcome-index + 1;
  tasks : l.tasks.items ++ tasks_in l.query (drop l.outcome-index l.outcomes) ≡ tasks_in 1 l.outcomes;
}
