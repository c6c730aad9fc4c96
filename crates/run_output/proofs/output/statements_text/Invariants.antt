use Rattle.std.proofs.Common.{◌≡◌, ◌+◌, ◌++◌, length}
use Rattle.std.specs.List.{AllByRecursion, AllZip, flat_map}
use Rattle.query_gather.specs.Answer.{CanBeWritten}
use Rattle.run_output.specs.Answers.{NamesColumns, printed}
use Rattle.run_stops.specs.Outcomes.{plans_of}
use Rattle.run_output.specs.Printed.{text_in}
use Rattle.run_output.proofs.output.statements_text.Given as goal

abbrev pub invariant-loop-statements : goal.invariant-loop-statements
invariant-loop-statements l =
    let columns = l.fn.schema in
    let dicts = l.fn.dicts in
    record {
      number : l.query + length l.statements ≡ length l.fn.outcomes;
      plans : AllByRecursion (NamesColumns (length columns)) (plans_of l.statements);
      answers : AllZip (CanBeWritten dicts) (plans_of l.statements) l.left;
      text : l.out ++ flat_map text_in (printed columns dicts (l.query + 1) l.statements l.left) ≡ flat_map text_in (printed columns dicts 1 l.fn.outcomes l.fn.answers);
    }

abbrev pub decreases-loop-statements : goal.decreases-loop-statements
decreases-loop-statements l = length l.statements
