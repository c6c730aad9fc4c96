use Rattle.std.proofs.Common.{◌∙◌, arith}
use Rattle.std.proofs.lemmas.Nat.Bits.{bit_at_and, bit_at-lt}
use Rattle.agg_groups.proofs.Columns.{same-chosen}
use Rattle.agg_groups.proofs.lanes.in_block.Goals as goal

pub returns-clause-below : goal.returns-clause-below
returns-clause-below c = λ i past. bit_at_and c.args.word c.every.result i ∙ omega (arith, c.every.ensures.clear i past)

pub returns-clause-same : goal.returns-clause-same
returns-clause-same c = same-chosen c.args.block.now _ c.args.word (λ i low.
    bit_at_and c.args.word c.every.result i ∙ omega (arith, c.every.ensures.set i low, bit_at-lt c.args.word i))
