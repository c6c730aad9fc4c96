use Rattle.std.proofs.Common.{◌≡◌, length, take}
use Rattle.std.specs.Prelude.{All}
use Rattle.table_core.specs.Columns.{column_cells}
use Rattle.trial_table.proofs.asked.are_columns.Given as goal

abbrev pub invariant-loop-column : goal.invariant-loop-column
invariant-loop-column l = All (λ column. length (column_cells column) ≡ l.rows) (take l.column-index l.columns)
