use Rattle.std.proofs.Common.{◌∙◌, sym, ap, ◌==◌}
use Rattle.std.specs.Prelude.{if◌then◌else◌}
use Rattle.std.specs.Int.{bit_at}
use Rattle.row_blocks.specs.Lanes.{lane_cell}
use Rattle.query_meaning.specs.Cells.{codes}
use Rattle.query_meaning.specs.Meaning as meaning
use Rattle.agg_groups.proofs.Columns.{least-more}
use Rattle.agg_groups.proofs.lanes.least_of.Goals as goal

pub loop-i-preserved : goal.loop-i-preserved
loop-i-preserved c =
    let n = c.loop-i.i in
    c.least_with-least.ensures ∙ ap (λ b. if bit_at c.args.word n == 1 then meaning.lesser codes b (lane_cell c.args.lane.now n) else b) c.loop-i.invariant
    ∙ sym (least-more c.args.lane.now c.args.word n)
