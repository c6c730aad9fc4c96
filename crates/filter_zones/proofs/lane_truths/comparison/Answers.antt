use Rattle.row_blocks.specs.Lanes.{held, word_at}
use Rattle.filter_zones.specs.Masks.{is_set}
use Rattle.filter_zones.proofs.RowTruths.{compared_with, not_null}
use Rattle.filter_zones.proofs.lane_truths.comparison.Goals as goal

pub returns : goal.returns
returns c = λ i low.
    let lane = c.args.lane.now in
    let word = word_at lane i in
    compared_with c.args.op c.args.value (held lane.holds word) (is_set lane.nulls i) (is_set c.met.result i) (is_set c.without.result i) (not_null lane.holds word) (c.met.ensures i low) (c.without.ensures i low)
