use Rattle.std.proofs.Common.{◌∙◌, sym, ap}
use Rattle.row_blocks.specs.declared.lane.Lane.{Lane}
use Rattle.row_blocks.specs.Lanes.{lane_cell}
use Rattle.row_blocks.proofs.Rows.{cell-row}
use Rattle.agg_groups.proofs.lanes.cell_in.Goals as goal

pub returns : goal.returns
returns c =
    c.cell.ensures ∙ ap (λ (l : Lane). lane_cell l c.args.row) c.lane.ensures ∙ sym (cell-row c.args.block.now c.args.row c.args.column c.requires.column)
