use Rattle.std.proofs.Common.{◌++◌, List, length}
use Rattle.std.specs.Prelude.{All}
use Rattle.std.specs.List.{AllByRecursion}
use Rattle.table_core.specs.Fitting.{FitsRow}
use Rattle.csv_load.specs.Judged.{Fields}
use Rattle.batch_ends.specs.Tasks.{IsPlanOfTable}
use Rattle.query_gather.specs.declared.answer.Answer.{Answer}
use Rattle.run_stops.specs.Outcomes.{plans_of}
use Rattle.inspect_verdict.specs.Plain.{ArePlain}
use Rattle.inspect_verdict.proofs.answers.answers_of.Given as goal

-- with the answers to the statements that are left, those so far are all
abbrev pub invariant-loop-statements : goal.invariant-loop-statements
invariant-loop-statements l = record {
  plans : (dicts : List Fields) × AllByRecursion (IsPlanOfTable l.fn.table.columns dicts) (plans_of l.statements) × All (FitsRow l.fn.table.columns dicts) l.fn.table.rows;
  plain : (more : List Answer) → ArePlain l.fn.table.rows (plans_of l.statements) more → ArePlain l.fn.table.rows (plans_of l.fn.outcomes) (l.answers.items ++ more);
}

abbrev pub decreases-loop-statements : goal.decreases-loop-statements
decreases-loop-statements l = length l.statements
