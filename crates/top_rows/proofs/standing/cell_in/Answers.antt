use Rattle.std.proofs.Common.{◌∙◌, sym, ap, arith}
use Rattle.std.proofs.lemmas.List.{get_or_past}
use Rattle.table_core.specs.declared.cell.Cell.TheVariants.{Null}
use Rattle.row_blocks.specs.Lanes.{lane_cell}
use Rattle.row_blocks.specs.Blocks.{row_at}
use Rattle.row_blocks.proofs.Rows.{cell-row, length-row}
use Rattle.top_rows.proofs.standing.cell_in.Goals as goal

pub returns-then-column-width : goal.returns-then-column-width
returns-then-column-width c =
    let i = c.args.row in
    c.cell.ensures ∙ ap (λ lane. lane_cell lane i) c.lane.ensures
    ∙ sym (cell-row c.args.block.now i c.args.column (omega (arith, c.if-column-width.true, c.width.ensures.width)))

pub returns-else-column-width : goal.returns-else-column-width
returns-else-column-width c =
    let row = row_at c.args.block.now c.args.row in
    sym (get_or_past row c.args.column Null (omega (arith, c.if-column-width.false, c.width.ensures.width, length-row c.args.block.now c.args.row)))
