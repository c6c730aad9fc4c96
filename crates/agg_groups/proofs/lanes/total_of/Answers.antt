use Rattle.std.proofs.Common.{◌∙◌, sym, ap, subst, ◌==◌, ◌+◌, ◌*◌, length, rules}
use Rattle.std.specs.Prelude.{if◌then◌else◌, ℤ, ◌+ℤ◌, ◌≤ℤ◌, pos, neg_ℤ}
use Rattle.std.specs.Int.{bit_at}
use mir.Syntax.{w128}
use Rattle.std.proofs.lemmas.Int.{to_z-of_z}
use Rattle.row_blocks.specs.Lanes.{lane_cell}
use Rattle.row_blocks.specs.Chosen.{chosen}
use Rattle.agg_groups.specs.Blocks.{cells_in}
use Rattle.query_meaning.specs.Cells.{int_of}
use Rattle.agg_groups.proofs.Columns.{total-more}
use Rattle.agg_groups.proofs.lanes.total_of.Goals as goal

pub loop-i-preserved : goal.loop-i-preserved
loop-i-preserved c =
    let n = c.loop-i.i in
    let step = c.total_with-total in
    let same = to_z-of_z w128 step.result (search rules) in
    record {
      value = same ∙ step.ensures.value ∙ ap (λ t. if bit_at c.args.word n == 1 then t +ℤ int_of (lane_cell c.args.lane.now n) else t) c.loop-i.invariant.value
          ∙ sym (total-more c.args.lane.now c.args.word n);
      low = subst (λ (t : ℤ). neg_ℤ (pos (length (chosen c.args.word (cells_in c.args.lane.now (n + 1))) * 9223372036854775808)) ≤ℤ t) (sym same) step.ensures.low;
      high = subst (λ (t : ℤ). t ≤ℤ pos (length (chosen c.args.word (cells_in c.args.lane.now (n + 1))) * 9223372036854775808)) (sym same) step.ensures.high;
    }
