use Rattle.std.specs.Prelude.{◌≤◌, ◌+◌, ◌++◌, List, length, All}
use Rattle.table_core.specs.declared.cell.Cell.{Cell}
use Rattle.table_sets.specs.declared.limits.TheConstants.{MOST_ROWS}
use Rattle.query_meaning.specs.Rows.{Numbered}
use Rattle.query_gather.specs.Partial.{IsAlike, MayJoinAll, StandForEach, Stands, joined, row_count, rows_of_all}
use Rattle.query_gather.proofs.Joining.{IsPartly}
use Rattle.query_gather.proofs.partial.join_parts.Given as goal

abbrev pub invariant-loop-rest : goal.invariant-loop-rest
invariant-loop-rest l = record {
  whole : IsAlike l.fn.first l.whole;
  alike : All (IsAlike l.fn.first) l.rest.items;
  few : row_count l.whole + rows_of_all l.rest.items ≤ MOST_ROWS;
  partly : (rows : List (Numbered Cell)) (lists : List (List (Numbered Cell))) → Stands l.fn.first rows → StandForEach l.fn.rest.items lists → MayJoinAll l.fn.first rows lists
      → IsPartly l.whole l.rest.items (rows ++ joined lists);
}

abbrev pub decreases-loop-rest : goal.decreases-loop-rest
decreases-loop-rest l = length l.rest.items
