use Rattle.std.proofs.Common.{◌≡◌, ◌≤◌, length, take}
use Rattle.sql_bind.specs.Meaning.{numbered}
use Rattle.query_gather.specs.Partial.{FitsPlan, Stands, matching, row_count}
use Rattle.inspect_verdict.proofs.answering.plain_answer.Given as goal

-- what is gathered stands for the matching rows so far
abbrev pub invariant-loop-row : goal.invariant-loop-row
invariant-loop-row l = record {
  plan : FitsPlan l.plan l.partial;
  stands : Stands l.partial (matching l.plan (numbered 0 (take l.row l.table.rows)));
  count : row_count l.partial ≤ l.row;
  width : length l.cells.items ≡ length l.table.columns;
}
