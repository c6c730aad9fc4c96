use Rattle.std.proofs.Common.{◌≡◌, drop}
use Rattle.query_meaning.specs.Cells.{codes}
use Rattle.row_blocks.specs.Blocks.{row_at}
use Rattle.query_meaning.specs.Rows as rows
use Rattle.top_rows.proofs.standing.orders_cmp_in.Given as goal

abbrev pub invariant-loop-order : goal.invariant-loop-order
invariant-loop-order l = rows.orders_cmp codes (drop l.order-index l.orders) (row_at l.block l.row) l.other ≡ rows.orders_cmp codes l.orders (row_at l.block l.row) l.other
