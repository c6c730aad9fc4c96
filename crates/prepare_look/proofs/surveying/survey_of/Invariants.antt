use Rattle.std.proofs.Common.{◌+◌, drop}
use Rattle.prepare_look.specs.Rows.{rows_of}
use Rattle.prepare_look.specs.Surveys.{Adds, IsLow}
use Rattle.prepare_look.proofs.surveying.survey_of.Given as goal

abbrev pub invariant-loop-done : goal.invariant-loop-done
invariant-loop-done l = record {
  low : IsLow (l.done + 1) l.found;
  sums : Adds l.fn.width (drop l.fn.skip (rows_of l.fn.marks l.fn.text)) l.rows l.found;
}
