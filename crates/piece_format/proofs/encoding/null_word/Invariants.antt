use Rattle.std.proofs.Common.{◌≡◌, ◌+◌, get_or}
use Rattle.table_core.specs.Columns.{column_cells}
use Rattle.table_core.specs.declared.cell.Cell.TheVariants.{Null}
use Rattle.piece_format.specs.Cells.{is_null}
use Rattle.piece_format.specs.Words.{bits}
use Rattle.piece_format.proofs.encoding.null_word.Given as goal

abbrev pub invariant-loop-b : goal.invariant-loop-b
invariant-loop-b l = l.word ≡ bits (λ b. is_null (get_or (column_cells l.column) (l.from + b) Null)) l.b
