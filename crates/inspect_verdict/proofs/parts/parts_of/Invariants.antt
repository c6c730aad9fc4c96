use Rattle.std.proofs.Common.{◌≡◌, ◌+◌, ◌++◌, length}
use Rattle.std.specs.List.{AllByRecursion, AllZip}
use Rattle.query_gather.specs.Answer.{CanBeWritten}
use Rattle.run_output.specs.Answers.{NamesColumns}
use Rattle.run_stops.specs.Outcomes.{plans_of}
use Rattle.inspect_verdict.specs.StatementParts.{parts_in}
use Rattle.inspect_verdict.proofs.parts.parts_of.Given as goal

abbrev pub invariant-loop-statements : goal.invariant-loop-statements
invariant-loop-statements l = record {
  number : l.query + length l.statements ≡ length l.fn.outcomes;
  plans : AllByRecursion (NamesColumns (length l.fn.schema)) (plans_of l.statements);
  answers : AllZip (CanBeWritten l.fn.dicts) (plans_of l.statements) l.left;
  parts : l.parts.items ++ parts_in l.fn.schema l.fn.dicts (l.query + 1) l.statements l.left ≡ parts_in l.fn.schema l.fn.dicts 1 l.fn.outcomes l.fn.answers;
}

abbrev pub decreases-loop-statements : goal.decreases-loop-statements
decreases-loop-statements l = length l.statements
