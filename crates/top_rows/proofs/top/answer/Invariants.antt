use Rattle.std.proofs.Common.{◌≡◌, ◌++◌, map}
use Rattle.table_core.specs.Lists.{lists}
use Rattle.query_meaning.specs.Cells.{codes}
use Rattle.query_meaning.specs.Meaning.{cell}
use Rattle.top_rows.specs.Standing.{numbered}
use Rattle.top_rows.proofs.Before.{Row}
use Rattle.top_rows.proofs.top.answer.Given as goal

abbrev pub invariant-loop-row : goal.invariant-loop-row
invariant-loop-row l = lists l.answer.items ++ map (λ (r : Row). map (cell codes r.1) l.columns) (numbered l.row-iterator) ≡ map (λ (r : Row). map (cell codes r.1) l.columns) (numbered l.rows.entries)
