use Rattle.std.proofs.Common.{arith}
use Rattle.std.proofs.lemmas.Result.{on_ok_weaker}
use Rattle.agg_groups.proofs.Columns.{few-chosen}
use Rattle.trial_query.proofs.blocks.add_block.Goals as goal

pub returns-clause-rows : goal.returns-clause-rows
returns-clause-rows c = on_ok_weaker c.add_block.result (λ count. omega (arith, count, few-chosen c.args.block.now c.args.chosen)) c.add_block.ensures.count
