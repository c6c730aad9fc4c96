use Rattle.std.proofs.Common.{◌≡◌, drop}
use Rattle.query_meaning.specs.Cells.{codes}
use Rattle.query_meaning.specs.Rows as rows
use Rattle.top_rows.proofs.standing.orders_cmp.Given as goal

abbrev pub invariant-loop-order : goal.invariant-loop-order
invariant-loop-order l = rows.orders_cmp codes (drop l.order-index l.orders) l.a l.b ≡ rows.orders_cmp codes l.orders l.a l.b
