use Rattle.std.proofs.Common.{◌∙◌, ◌==◌, ap, if◌then◌else◌, arith}
use Rattle.std.specs.Int.{bit_at}
use Rattle.std.proofs.lemmas.Nat.Bits.{bit_at_ones}
use Rattle.table_core.specs.declared.cell.Cell.TheVariants.{Null}
use Rattle.row_blocks.specs.Lanes.{held, word_at}
use Rattle.row_blocks.specs.Blocks.{lane_in}
use Rattle.row_blocks.proofs.block.Block.begin.Goals as goal

pub returns-clause-null : goal.returns-clause-null
returns-clause-null c = λ i x low there.
    (let lane = lane_in c.forget_all.new.lanes x in
    let null = c.forget_all.ensures.null x (omega (arith, there, c.requires.narrow, c.self.invariant.lanes)) in
    ap (λ n. if bit_at n i == 1 then Null else held lane.holds (word_at lane i)) null
    ∙ ap (λ b. if b == 1 then Null else held lane.holds (word_at lane i)) (bit_at_ones 64 i (omega (arith, low, c.requires.short))))
