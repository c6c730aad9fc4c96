use Rattle.std.proofs.Common.{◌∙◌, sym, ap, ◌==◌}
use Rattle.std.specs.Prelude.{if◌then◌else◌}
use Rattle.std.specs.Int.{bit_at}
use Rattle.row_blocks.specs.Lanes.{lane_cell}
use Rattle.query_meaning.specs.Cells.{codes}
use Rattle.query_meaning.specs.Meaning as meaning
use Rattle.agg_groups.proofs.Columns.{greatest-more}
use Rattle.agg_groups.proofs.lanes.greatest_of.Goals as goal

pub loop-i-preserved : goal.loop-i-preserved
loop-i-preserved c =
    let n = c.loop-i.i in
    c.greatest_with-greatest.ensures ∙ ap (λ b. if bit_at c.args.word n == 1 then meaning.greater codes b (lane_cell c.args.lane.now n) else b) c.loop-i.invariant
    ∙ sym (greatest-more c.args.lane.now c.args.word n)
